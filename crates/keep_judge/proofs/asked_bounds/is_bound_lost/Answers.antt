use Rattle.std.proofs.Common.{◌≡◌, ◌∙◌, ◌&&◌, ℕ, Bool, true, false, not, List, Option, None, Some, ap, refl, sym}
use Rattle.std.specs.Prelude.{is_some, option_map}
use Rattle.std.proofs.lemmas.Bool.{ne_eqb}
use Rattle.check_link.specs.Views.{symbol_view}
use Rattle.check_link.specs.declared.things.SymbolOf as code
use Rattle.check_load.specs.Views.{loaded_view}
use Rattle.elf_model.specs.Link.LinkerNames.{named_output}
use Rattle.elf_model.specs.Link.Relocation.{is_local, symbol_at}
use Rattle.elf_model.specs.Link.Resolution.{SymbolOf, binding, chosen}
use Rattle.judge_model.specs.Kept.{is_bound_name}
use Rattle.keep_judge.specs.Collected.{has_name}
use Rattle.keep_judge.proofs.asked_bounds.is_bound_lost.Goals as goal

some_mapped : (o : Option code.SymbolOf) → is_some (option_map symbol_view o) ≡ is_some o
some_mapped None = refl
some_mapped (Some s) = refl

by_parts : (a b d k : Bool) → a ≡ false → b ≡ true → d ≡ false → k ≡ (not a && (b && (not d && k)))
by_parts a b d k p q r =
    sym
    (ap (λ (x : Bool). not x && (b && (not d && k))) p
    ∙ (ap (λ (x : Bool). x && (not d && k)) q ∙ ap (λ (x : Bool). not x && k) r))

pub returns : goal.returns
returns c =
    let name = c.symbol_name-name.result.now in
    let names = c.args.names.now in
    let lost = has_name c.args.lost.now in
    let s = symbol_at c.args.number (loaded_view c.args.loaded.now) c.args.j in
    let local : is_local s ≡ false =
    ne_eqb (binding s.entry) 0 (λ e. c.if-binding-eq-STB_LOCAL.false (c.binding.ensures ∙ (ap binding c.symbol-entry.ensures ∙ e))) in
    let bound : is_bound_name name ≡ true = sym c.is_bound_name.ensures ∙ c.if-not-is_bound_name.false in
    let free : is_some (chosen names name) ≡ false =
    sym (ap (λ (o : Option SymbolOf). is_some o) c.chosen.ensures) ∙ (some_mapped c.chosen.result ∙ (sym c.is_some.ensures ∙ c.if-is_some.false)) in
    c.contains_key.ensures
    ∙ (ap lost c.named_output.ensures
    ∙ (by_parts (is_local s) (is_bound_name name) (is_some (chosen names name)) (lost (named_output name)) local bound free
    ∙ ap (λ (n : List ℕ). not (is_local s) && (is_bound_name n && (not (is_some (chosen names n)) && lost (named_output n)))) c.symbol_name-name.ensures))
