use Rattle.std.proofs.Common.{◌≡◌, List, [], ◌∷◌, length, sym, ◌∙◌, arith}
use Rattle.std.proofs.lemmas.Bool.Decides.{nat_tests}
use Rattle.room_lock.proofs.room.Room.is_empty.Goals as goal

none_of : {A : Type 0} (xs : List A) → length xs ≡ 0 → xs ≡ []
none_of [] e = λ i. []
none_of (x ∷ xs) e = absurd (omega (arith, e))

pub returns-clause-none : goal.returns-clause-none
returns-clause-none g c = λ e.
    let zero : c.len.result ≡ 0 = grind (arith, nat_tests, e) in none_of c.args.self.now.members (sym c.len.ensures ∙ zero)
