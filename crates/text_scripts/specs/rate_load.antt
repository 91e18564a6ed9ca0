pub mod RateTexts
