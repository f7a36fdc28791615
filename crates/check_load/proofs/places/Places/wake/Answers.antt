use Rattle.std.proofs.Common.{◌∙◌, [], ℕ, List, Option, ap, refl, subst, sym}
use Rattle.std.specs.Prelude.{option_map, unwrap_or}
use Rattle.std.specs.Borrow.{Bor}
use Rattle.std.specs.Global.{Vec}
use Rattle.elf_model.specs.Inputs.Opening.{Opened}
use Rattle.check_load.specs.Places.{IsWoken}
use Rattle.check_load.proofs.PlaceLaws.{all_woken}
use Rattle.check_load.proofs.places.Places.wake.Goals as goal

abbrev items_of : Option (Bor (Vec (ℕ × ℕ))) → List (ℕ × ℕ)
items_of f = unwrap_or (option_map (λ v. v.now.items) f) []

pub returns-in_default-clause-woken : goal.returns-in_default-clause-woken
returns-in_default-clause-woken c =
    subst (λ (os : List Opened). IsWoken os c.args.name.now c.args.awake.now) c.self.view_is
    (all_woken c.self.inside.names c.self.inside.inputs.now c.args.name.now [] c.args.awake.now c.args.awake.now c.self.invariant.1
    (sym (ap items_of c.in_default.is) ∙ c.places.ensures) (λ i q. refl))

pub returns-clause-woken : goal.returns-clause-woken
returns-clause-woken c =
    subst (λ (os : List Opened). IsWoken os c.args.name.now c.wake_all.new.self) c.self.view_is
    (all_woken c.self.inside.names c.self.inside.inputs.now c.args.name.now c.deref.result.now c.args.awake.now c.wake_all.new.self c.self.invariant.1
    (c.deref.ensures.value ∙ (sym (ap items_of c.in-Some.is) ∙ c.places.ensures))
    c.in_ok-wake_all.ensures)
