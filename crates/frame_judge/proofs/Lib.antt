mod EndLaws
mod Found
mod HeldLaws
mod ListLaws
mod PieceLaws
mod PlainLaws
mod RightLaws
mod TableLaws
