pub mod RuleTexts
pub mod Readers
