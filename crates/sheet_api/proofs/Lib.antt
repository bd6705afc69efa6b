-- Both round trips through C: Trips. Worked sheets and images, computed: Cases.
pub mod Trips
pub mod Cases
