pub mod WriteLaws
pub mod ReachLaws
pub mod CountLaws
pub mod PutLaws
pub mod FaultLaws
