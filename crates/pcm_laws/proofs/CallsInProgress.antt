-- Lists of calls in progress, and whose they are.
use Rattle.std.proofs.Common.{◌≡◌, Bool, true, false, cond, nat_eq, List, [], ◌∷◌, ◌++◌, refl, ap, subst, arith}
use Rattle.std.proofs.lemmas.Bool.Decides.{nat_tests}
use Rattle.std.specs.declared.option.Option.{Option}
use Rattle.std.specs.declared.option.Option.TheVariants.{Some, None}
use Rattle.pcm_base.specs.declared.ids.ClientId.{ClientId}
use Rattle.pcm_base.specs.declared.sleeper.Task.{Task}
use Rattle.pcm_base.specs.model.Events.{others_than, waiting_of}
use Rattle.pcm_base.specs.model.Stream.{Waiting}
use Rattle.pcm_laws.specs.Waiting.{HaveDistinctClients}

pub same_client : (d c : ClientId) → nat_eq d.0 c.0 ≡ true → d ≡ c
same_client d c h = let e : d.0 ≡ c.0 = grind (arith, nat_tests, h) in ap (λ n. let i : ClientId = record { 0 = n } in i) e

-- distinct clients, and none of them c
pub record IsFree (c : ClientId) (ps : List Waiting) : Type 0 where
  pub distinct : HaveDistinctClients ps
  pub free : waiting_of c ps ≡ None

pub found_none : (b : Bool) (t : Task) (o : Option Task) → cond b (Some t) o ≡ None → b ≡ false
found_none true t o h = absurd (cc)
found_none false t o h = refl

pub rest_none : (b : Bool) (t : Task) (o : Option Task) → cond b (Some t) o ≡ None → o ≡ None
rest_none true t o h = absurd (cc)
rest_none false t o h = h

both_none : (b : Bool) (t : Task) (o : Option Task) → b ≡ false → o ≡ None → cond b (Some t) o ≡ None
both_none true t o e h = absurd (cc)
both_none false t o e h = h

swapped : (c d : ClientId) → nat_eq c.0 d.0 ≡ false → nat_eq d.0 c.0 ≡ false
swapped c d h = grind (arith, nat_tests, h)

-- one call more
none-append : (d : ClientId) (p : Waiting) (ps : List Waiting) → nat_eq p.client.0 d.0 ≡ false → waiting_of d ps ≡ None → waiting_of d (ps ++ p ∷ []) ≡ None
none-append d p [] n h = both_none (nat_eq p.client.0 d.0) p.task None n refl
none-append d p (q ∷ qs) n h =
    both_none (nat_eq q.client.0 d.0) q.task (waiting_of d (qs ++ p ∷ [])) (found_none (nat_eq q.client.0 d.0) q.task (waiting_of d qs) h)
    (none-append d p qs n (rest_none (nat_eq q.client.0 d.0) q.task (waiting_of d qs) h))

pub distinct-append : (p : Waiting) (ps : List Waiting) → HaveDistinctClients ps → waiting_of p.client ps ≡ None → HaveDistinctClients (ps ++ p ∷ [])
distinct-append p [] d h = (refl, tt)
distinct-append p (q ∷ qs) d h = (
  none-append q.client p qs (swapped q.client p.client (found_none (nat_eq q.client.0 p.client.0) q.task (waiting_of p.client qs) h)) d.0,
  distinct-append p qs d.1 (rest_none (nat_eq q.client.0 p.client.0) q.task (waiting_of p.client qs) h),
)

-- one call less
none-others_than : (c d : ClientId) (ps : List Waiting) → waiting_of d ps ≡ None → waiting_of d (others_than c ps) ≡ None
none-others_than c d [] h = refl
none-others_than c d (p ∷ ps) h = by (nat_eq p.client.0 c.0) (none-others_than c d ps)
  where
    by : (b : Bool) → (waiting_of d ps ≡ None → waiting_of d (others_than c ps) ≡ None) → waiting_of d (cond b ps (p ∷ others_than c ps)) ≡ None
    by true f = rest_none (nat_eq p.client.0 d.0) p.task (waiting_of d ps) h
    by false f = both_none (nat_eq p.client.0 d.0) p.task (waiting_of d (others_than c ps)) (found_none (nat_eq p.client.0 d.0) p.task (waiting_of d ps) h) (f (rest_none (nat_eq p.client.0 d.0) p.task (waiting_of d ps) h))

pub free-others_than : (c : ClientId) (ps : List Waiting) → HaveDistinctClients ps → IsFree c (others_than c ps)
free-others_than c [] d = record { distinct = tt; free = refl }
free-others_than c (p ∷ ps) d = by (nat_eq p.client.0 c.0) refl (free-others_than c ps d.1)
  where
    by : (b : Bool) → nat_eq p.client.0 c.0 ≡ b → IsFree c (others_than c ps) → IsFree c (cond b ps (p ∷ others_than c ps))
    by true e f = record { distinct = d.1; free = subst (λ i. waiting_of i ps ≡ None) (same_client p.client c e) d.0 }
    by false e f = record {
      distinct = (none-others_than c p.client ps d.0, f.distinct);
      free = both_none (nat_eq p.client.0 c.0) p.task (waiting_of c (others_than c ps)) e f.free;
    }
