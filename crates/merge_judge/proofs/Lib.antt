pub mod AreaLaws
pub mod LineLaws
pub mod SectionLaws
pub mod UnitLaws
