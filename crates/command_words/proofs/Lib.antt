pub mod NumberTooLargeLaws
pub mod WordParserLaws
