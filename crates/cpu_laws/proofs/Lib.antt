pub mod Stack
pub mod CallReturn
pub mod PushPop
pub mod EntryReturn
