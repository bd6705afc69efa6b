-- One step of the machine, from interrupt or fetch to commit: Step.
pub mod Step
