pub mod LayoutFlaws
