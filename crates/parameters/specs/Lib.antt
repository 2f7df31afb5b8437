pub mod Parameters
pub mod StepsLaws
pub mod GroupsLaws
pub mod FlowLaws
pub mod StoringLaws
pub mod WritingLaws
pub mod Features
