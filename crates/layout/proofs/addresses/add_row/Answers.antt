use Rattle.std.proofs.Common.{rules, ◌∙◌, ◌++◌, ◌∷◌, [], ℕ, List, ap, length}
use Rattle.std.specs.Global.{Vec}
use Rattle.std.proofs.lemmas.List.{length-replicate, map-append}
use Rattle.layout.specs.Addresses.{shape_of}
use Rattle.layout.proofs.Entries.{empty_more}
use Rattle.layout.proofs.addresses.add_row.Goals as goal

pub returns-clause-shape : goal.returns-clause-shape
returns-clause-shape c =
    ap shape_of c.in_ok-push.ensures.items
    ∙ map-append (λ (r : Vec ℕ). length r.items) c.args.table.now.items (c.in_ok-row.row ∷ [])
    ∙ ap (λ (n : ℕ). shape_of c.args.table.now.items ++ n ∷ [])
    (ap (λ (row : List ℕ). length row) (c.in_ok-row.ensures.items_if_clones_equal (λ y k. search rules)) ∙ length-replicate c.args.count 0)

pub returns-clause-empty : goal.returns-clause-empty
returns-clause-empty c =
    empty_more c.args.table.now.items c.push.new.self.items c.in_ok-row.row c.args.count c.in_ok-push.ensures.items
    (c.in_ok-row.ensures.items_if_clones_equal (λ y k. search rules))
