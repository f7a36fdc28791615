use Rattle.std.proofs.Common.{◌≡◌, ◌∙◌, ◌&&◌, ◌||◌, Bool, true, false, Option, Some, ap, cond, sym}
use Rattle.std.specs.Prelude.{is_some}
use Rattle.std.specs.Str.{bytes_eq}
use Rattle.std.proofs.Math.Bool.{or-false}
use Rattle.std.proofs.lemmas.Bool.{false≢true}
use Rattle.std.proofs.lemmas.Map.Text.{btree_map_updates_str}
use Rattle.check_link.specs.ByName.{found_in}
use Rattle.keep_judge.proofs.GroupMarks.{or_true}
use Rattle.keep_judge.proofs.asked_bounds.add_lost.Goals as goal

-- a table that has one name more
put : (b gone : Bool) (old : Option Bool) → gone ≡ true → is_some (cond b (Some true) old) ≡ (is_some old || (gone && b))
put true true old e = sym (or_true (is_some old))
put false true old e = sym (or-false (is_some old))
put b false old e = absurd (false≢true e)

pub returns-in_ok-insert : goal.returns-in_ok-insert
returns-in_ok-insert c =
    let name = c.args.piece.now.name.now in
    let table = c.args.lost.now in
    λ n. ap is_some (btree_map_updates_str name table c.insert.new.self (Some true) c.in_ok-insert.ensures.updates n)
    ∙ put (bytes_eq name n) _ (found_in table n) (sym c.is_lost.ensures ∙ c.if-is_lost.true)
