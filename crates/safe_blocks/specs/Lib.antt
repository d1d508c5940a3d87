pub mod UnsafeFree
