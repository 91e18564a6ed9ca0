pub mod ControlCodeLaws
