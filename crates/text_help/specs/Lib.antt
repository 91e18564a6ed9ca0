pub mod LineHelpTexts
