use Rattle.std.proofs.Common.{◌∙◌, ◌∷◌, ◌||◌, List, ℕ, ap, length, map, refl, sym}
use Rattle.std.specs.Borrow.{Bor}
use Rattle.std.specs.List.{list_any}
use Rattle.std.specs.Str.{bytes_eq}
use Rattle.elf_model.specs.Inputs.Command.{Plan}
use Rattle.search.specs.Names.{is_among}
use Rattle.search.specs.Views.{loaded_views}
use Rattle.search.specs.declared.loaded.LoadedObject as code
use Rattle.search.specs.declared.loader.Mention.{Mention}
use Rattle.search.proofs.LoaderLaws.{knows_none}
use Rattle.search.proofs.Numbering.{unasked_none, undefined_none}
use Rattle.search.proofs.loader.Loader.new.Goals as goal

pub add_roots-requires : goal.add_roots-requires
add_roots-requires g c = λ k. (
  (refl, tt),
  (
    record {
      sized = ap (λ (ms : List Mention). length ms) c.new-2.ensures.items ∙ sym (ap (λ (l : List (List ℕ)). length l) c.requires);
      asked = λ n. unasked_none (g.N.NameNumbers.names c.args.numbers) c.new-2.result.items n c.new-2.ensures.items ∙ sym (ap (λ (l : List (List ℕ)). is_among l n) c.new.ensures);
    },
    c.new.ensures,
  ),
)

pub returns-clause-known : goal.returns-clause-known
returns-clause-known g c =
    knows_none g.N.NameNumbers.names _ (ap (λ (ls : List code.LoadedObject). loaded_views ls) c.new-3.ensures.items) c.seeded.ensures
    (λ n.
    c.in_ok-add_roots.ensures.requested n
    ∙ (ap (λ (us : List (Bor (List ℕ))). bytes_eq c.plan.inside.entry.now n || list_any (λ root. bytes_eq root n) (map (λ t. t.now) us)) c.deref.ensures.value
    ∙ ap (λ (p : Plan). list_any (λ root. bytes_eq root n) (p.entry ∷ p.undefined)) c.plan.view_is))
    c.in_ok-add_roots.ensures.noted
    (λ n. c.in_ok-add_roots.ensures.defined n ∙ undefined_none (g.N.NameNumbers.names c.args.numbers) c.new-2.result.items n c.new-2.ensures.items)
    c.new-3.ensures.items c.new-4.ensures
