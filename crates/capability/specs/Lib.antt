-- A capability and what changes it: Capability. With its type: Sealing. What a load takes of it: Loading.
pub mod Capability
pub mod Sealing
pub mod Loading
