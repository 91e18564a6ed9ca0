pub mod ArrivedCellAndRowLaws
pub mod ContainerPayloadLaws
pub mod SessionCourseLaws
