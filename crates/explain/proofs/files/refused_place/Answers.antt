use Rattle.explain.proofs.files.refused_place.Goals as goal

pub returns-in_ok-part-in-BadObject : goal.returns-in_ok-part-in-BadObject
returns-in_ok-part-in-BadObject c =
    (rw (c.in-Some.is, c.in-BadObject.is) at c.in_ok-object.ensures, c.in_ok-part-in-BadObject.ensures.bad)

pub returns-in-Group : goal.returns-in-Group
returns-in-Group c = rw (c.in-Some.is, c.in-Group.is) at c.in_ok-object.ensures
