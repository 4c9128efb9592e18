pub mod Cells
pub mod Posts
pub mod TurnPosts
pub mod Replies
pub mod Pages
pub mod Maps
pub mod inner
