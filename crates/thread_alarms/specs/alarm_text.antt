pub mod AlarmTextLines
