pub mod Comparing
pub mod Filled
pub mod Got
pub mod Judged
pub mod Rising
pub mod ThreadBlock
