use Rattle.std.proofs.Common.{sym, refl}
use Rattle.layout_io.proofs.Named.{place, put_at, put_new}
use Rattle.layout_io.proofs.stored.replace.Goals as goal

pub returns-in_ok-push-in-None-clause-ok : goal.returns-in_ok-push-in-None-clause-ok
returns-in_ok-push-in-None-clause-ok c = rw c.in_ok-push-in-None.ensures.items (put_new c.args.name.now c.args.bytes c.args.files.now.items _ (sym (rw c.deref.ensures.value at c.in-None.ensures)) c.in_ok-name-in-None.ensures refl)

pub returns-in-Some-clause-ok : goal.returns-in-Some-clause-ok
returns-in-Some-clause-ok c =
    let p = place c.args.name.now c.args.files.now.items c.in-Some.i c.index_mut-file.result.now (sym (rw c.deref.ensures.value at c.in-Some.ensures)) c.index_mut-file.ensures.value in
    put_at _ _ _ _ _ _ p refl refl
