-- Plain facts that several proofs need.
use Rattle.std.proofs.Common.{Result, Ok, Err, OnOk}

pub on-ok : {T E : Type 0} (A B : Type 0) → (A → B) → (r : Result T E) → OnOk r A → OnOk r B
on-ok A B f (Ok t) a = f a
on-ok A B f (Err e) a = tt
