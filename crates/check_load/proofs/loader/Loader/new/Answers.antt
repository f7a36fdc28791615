use Rattle.std.proofs.Common.{◌∙◌, ◌∷◌, ◌||◌, List, ℕ, ap, map}
use Rattle.std.specs.Borrow.{Bor}
use Rattle.std.specs.List.{list_any}
use Rattle.std.specs.Str.{bytes_eq}
use Rattle.elf_model.specs.Inputs.Command.{Plan}
use Rattle.check_load.specs.Views.{loaded_views}
use Rattle.check_load.specs.declared.loaded.Loaded.{Loaded}
use Rattle.check_load.proofs.LoaderLaws.{knows_none}
use Rattle.check_load.proofs.NumberedNames.{none_numbered}
use Rattle.check_load.proofs.loader.Loader.new.Goals as goal

pub returns-clause-known : goal.returns-clause-known
returns-clause-known c =
    knows_none c.args.places.now _ c.in_ok-names.ensures.woken (ap (λ (ls : List Loaded). loaded_views ls) c.new.ensures.items) c.new-2.ensures
    (λ n.
    c.in_ok-names.ensures.requested n
    ∙ (ap (λ (us : List (Bor (List ℕ))). bytes_eq c.plan.inside.entry.now n || list_any (λ root. bytes_eq root n) (map (λ t. t.now) us)) c.deref.ensures.value
    ∙ ap (λ (p : Plan). list_any (λ root. bytes_eq root n) (p.entry ∷ p.undefined)) c.plan.view_is)) c.in_ok-names.ensures.defined c.new-3.ensures.members c.new-3.ensures.items
    (none_numbered c.in_ok-names.names.names _ c.new.ensures.items)
