use Rattle.std.proofs.Common.{◌↔◌, ℕ, ◌+◌, ◌<◌, List, subst}
use Rattle.byteview.specs.Numbers.{HasText}
use Rattle.byteview.proofs.Texts.{no_text, texts_to_last}
use Rattle.byteview.proofs.view.View.text_limit.Goals as goal

pub returns-in-Some : goal.returns-in-Some
returns-in-Some c =
    let Begins : List ℕ → Type 0 = λ bytes. (at : ℕ) → HasText bytes at ↔ at < c.in-Some.last + 1 in
    subst Begins c.self.view_is (texts_to_last c.self.inside.bytes.now c.in-Some.last c.in-Some.ensures)

pub returns-in-None : goal.returns-in-None
returns-in-None c =
    let Begins : List ℕ → Type 0 = λ bytes. (at : ℕ) → HasText bytes at ↔ at < 0 in
    subst Begins c.self.view_is (no_text c.self.inside.bytes.now c.in-None.ensures)
