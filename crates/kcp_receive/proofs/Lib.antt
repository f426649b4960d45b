-- `Outcomes` has what each public call promises on either side of its tests, and that a contract leaves one outcome only.
pub mod Outcomes
