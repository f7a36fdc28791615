use Rattle.std.proofs.Common.{◌≡◌, ◌∙◌, List, ℕ, subst, sym}
use Rattle.std.specs.Prelude.{None, find}
use Rattle.opening.specs.Held.{is_part_named}
use Rattle.opening.proofs.OpenedLaws.{apart_at}
use Rattle.opening.proofs.opened_items.find_library.Goals as goal

pub returns-in-Some-clause-whole : goal.returns-in-Some-clause-whole
returns-in-Some-clause-whole c apart =
    let parts = c.args.files.now.parts in
    c.in-Some.ensures.whole
    (subst (λ (p : List ℕ). find (is_part_named p) parts ≡ None) (sym (c.deref.ensures ∙ c.in_ok-path.ensures))
    (apart_at parts c.args.directories.now c.args.name.now c.loop-directory.directory-index _ c.loop-directory-test.true apart))
