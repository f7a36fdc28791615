pub mod ItemFlaws
