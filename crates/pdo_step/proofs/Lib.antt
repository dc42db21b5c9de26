pub mod BitLaws
pub mod ReceivingLaws
pub mod FormLaws
pub mod OutcomeLaws
pub mod CaseLaws
pub mod MarkLaws
