use Rattle.std.proofs.Common.{◌≡◌, ◌∙◌, [], Bool, List, ap, cond, false, not, refl, subst, sym, true}
use Rattle.std.proofs.lemmas.Bool.{false≢true}
use Rattle.std.specs.Global.{Vec}
use Rattle.placing.specs.declared.runs.Place.{Place}
use Rattle.search.specs.Views.{loaded_views}
use Rattle.debug_image.specs.DebugSections.{debug_rows, joined_of}
use Rattle.debug_image.specs.DebugViews.{joined_views, row_views}
use Rattle.debug_image.specs.KeptTables.{AreStandIns, StandInTable}
use Rattle.debug_image.specs.Reports.{left_data, none_left}
use Rattle.debug_image.specs.declared.joined.Joined.{Joined}
use Rattle.debug_image.proofs.IndexSteps.{indexed}
use Rattle.debug_image.proofs.debug_data.debug_data.Goals as goal

is_false : (b : Bool) → not b ≡ true → b ≡ false
is_false true e = absurd (false≢true e)
is_false false e = refl

is_true : (b : Bool) → not b ≡ false → b ≡ true
is_true true e = refl
is_true false e = absurd (false≢true (sym e))

pub returns-then-not-wanted-clause-rows : goal.returns-then-not-wanted-clause-rows
returns-then-not-wanted-clause-rows c =
    ap (λ (rs : List (Vec Place)). row_views rs) c.no_data.ensures.rows
    ∙ ap (λ (b : Bool). cond b (debug_rows (loaded_views c.args.objects.now)) []) (sym (is_false c.args.wanted.debug c.if-not-wanted.true))

pub returns-then-not-wanted-clause-joined : goal.returns-then-not-wanted-clause-joined
returns-then-not-wanted-clause-joined c =
    ap (λ (js : List Joined). joined_views js) c.no_data.ensures.joined
    ∙ ap (λ (b : Bool). cond b (joined_of (loaded_views c.args.objects.now)) []) (sym (is_false c.args.wanted.debug c.if-not-wanted.true))

pub returns-then-not-wanted-clause-left : goal.returns-then-not-wanted-clause-left
returns-then-not-wanted-clause-left c =
    c.no_data.ensures.left ∙ ap (λ (b : Bool). cond b (left_data (loaded_views c.args.objects.now)) none_left) (sym (is_false c.args.wanted.debug c.if-not-wanted.true))

pub returns-in-Ok-clause-rows : goal.returns-in-Ok-clause-rows
returns-in-Ok-clause-rows c =
    c.in-Ok.ensures.rows ∙ ap (λ (b : Bool). cond b (debug_rows (loaded_views c.args.objects.now)) []) (sym (is_true c.args.wanted.debug c.if-not-wanted.false))

pub returns-in-Ok-clause-joined : goal.returns-in-Ok-clause-joined
returns-in-Ok-clause-joined c =
    c.in-Ok.ensures.joined ∙ ap (λ (b : Bool). cond b (joined_of (loaded_views c.args.objects.now)) []) (sym (is_true c.args.wanted.debug c.if-not-wanted.false))

pub returns-in-Ok-clause-left : goal.returns-in-Ok-clause-left
returns-in-Ok-clause-left c =
    c.in-Ok.ensures.left ∙ ap (λ (b : Bool). cond b (left_data (loaded_views c.args.objects.now)) none_left) (sym (is_true c.args.wanted.debug c.if-not-wanted.false))

pub returns-in-Ok-clause-found : goal.returns-in-Ok-clause-found
returns-in-Ok-clause-found c =
    let os = loaded_views c.args.objects.now in
    let d = c.in-Ok.data in
    record {
      index = indexed os (row_views d.rows.items) d.index.items c.in-Ok.ensures.index;
      stand_ins = subst (λ (ts : Vec StandInTable). AreStandIns os ts.items) (sym c.in-Ok.ensures.stand_ins) c.in_ok-stand_ins.ensures;
    }
