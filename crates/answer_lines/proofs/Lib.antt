pub mod ReasonTexts
pub mod NumberForms
