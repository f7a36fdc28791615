use Rattle.std.proofs.Common.{ℕ, refl, ap, set}
use Rattle.std.specs.Global.{Vec}
use Rattle.layout.proofs.Entries.{put_entry, put_shape, row_there}
use Rattle.layout.proofs.addresses.put_address.Goals as goal

pub returns-clause-shape : goal.returns-clause-shape
returns-clause-shape c =
    let o = c.args.place.now.piece.object in
    let s = c.args.place.now.piece.section in
    put_shape c.args.table.now.items _ o s c.args.place.now.at c.index_mut-row.result.now _
    (ap (λ (row : Vec ℕ). set row.items s c.args.place.now.at) c.index_mut-row.ensures.value) refl

pub returns-clause-put : goal.returns-clause-put
returns-clause-put c =
    let o = c.args.place.now.piece.object in
    let s = c.args.place.now.piece.section in
    let there = row_there c.args.table.now.items o s c.index_mut-row.result.now c.requires.there in
    put_entry c.args.table.now.items _ o s c.args.place.now.at c.index_mut-row.result.now _ there.0 c.requires.some there.1
    (ap (λ (row : Vec ℕ). set row.items s c.args.place.now.at) c.index_mut-row.ensures.value) refl
