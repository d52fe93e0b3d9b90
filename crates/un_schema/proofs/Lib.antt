pub mod RuleLookups
pub mod AddedRule
pub mod PathParts
pub mod Distinct
pub mod Soundness
pub mod Steps
pub mod GoodSchemas
