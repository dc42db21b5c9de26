pub mod IntegerLaws
pub mod CodecLaws
pub mod FaultLaws
pub mod OrderLaws
pub mod ByteLaws
pub mod StandardLaws
pub mod WordLaws
pub mod RoundTrip
