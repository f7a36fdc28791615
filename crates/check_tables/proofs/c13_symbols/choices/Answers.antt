use Rattle.std.proofs.Common.{◌≡◌, ◌∙◌, ap, List, ℕ, subst}
use Rattle.std.specs.Prelude.{◌↔◌, IfSome, IsSome}
use Rattle.elf_model.specs.Link.Loading.{LoadedObject}
use Rattle.elf_model.specs.Image.MapRecord.{SymbolRow}
use Rattle.elf_model.specs.Link.Resolution.{AreSoundSymbols, AreUnique}
use Rattle.elf_model.specs.Image.RightLink.{AreSymbolsListed, HasLine, Subject}
use Rattle.check_relocs.specs.Bindings.{Bound, bound_of}
use Rattle.check_tables.proofs.c13_symbols.choices.Goals as goal

abbrev Listed : List SymbolRow → Bound → Type 0
Listed rows b = AreSoundSymbols b.objects × AreUnique b.objects × ((name : List ℕ) → HasLine rows b.objects b.places name)

as_clause :
    (s : Subject) (T : Type 0) (rows : List SymbolRow) (b : Bound) → rows ≡ s.map.symbols → b ≡ bound_of s →
    (T ↔ Listed rows b) → T ↔ AreSymbolsListed s
as_clause s T rows b er eb h =
    let r = subst (λ (rs : List SymbolRow). T ↔ Listed rs b) er h in
    let o = subst (λ (x : Bound). T ↔ Listed s.map.symbols x) eb r in (
      λ e. let l = o.0 e in record { sound = l.0; unique = l.1; lines = l.2 },
      λ l. o.1 (l.sound, l.unique, l.lines),
    )

pub returns-clause-listed : goal.returns-clause-listed
returns-clause-listed c =
    let rows = ap (λ (s : Subject). s.map.symbols) (c.link.view_is ∙ c.link-link.ensures) in
    as_clause c.args.bound.now (IsSome c.in_ok-choices.choices) _ c.bindings.result.now rows c.bindings.ensures
    c.in_ok-choices.ensures.listed

pub returns-clause-choices : goal.returns-clause-choices
returns-clause-choices c =
    subst (λ (os : List LoadedObject). IfSome c.in_ok-choices.choices (λ x. x ≡ os)) (ap (λ (b : Bound). b.objects) c.bindings.ensures) c.in_ok-choices.ensures.choices
