pub mod ServedWithPosts
