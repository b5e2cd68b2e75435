-- A member comes into a room or goes out, and a log goes on.
use Rattle.std.proofs.Common.{◌≡◌, ℕ, Bool, true, false, nat_eq, List, [], ◌∷◌, ◌++◌, refl, sym, ap, ◌∙◌, subst, arith}
use Rattle.std.specs.Prelude.{◌||◌, if◌then◌else◌}
use Rattle.std.proofs.lemmas.Bool.Decides.{nat_tests}
use Rattle.pcm_base.specs.declared.ids.SubId.{SubId}
use Rattle.pcm_base.specs.model.Acts.{subs}
use Rattle.pcm_base.specs.model.Group.{stream_of}
use Rattle.pcm_base.specs.model.Replay.{Distinct, is_member}
use Rattle.pcm_base.specs.model.Stream.{Stream, Member}
use Rattle.pcm_base.specs.model.World.{without_member}
use Rattle.floor_rule.specs.declared.entry.Entry.TheVariants as entry
use Rattle.floor_rule.specs.declared.entry.Joint.{Joint}
use Rattle.floor_rule.specs.declared.rule.Marked.{Marked}
use Rattle.floor_rule.specs.Marks.{count_of}
use Rattle.room_book.specs.declared.book.BookEntry.{BookEntry}
use Rattle.room_book.specs.declared.book.BookEntry.TheVariants.{In, Out}
use Rattle.room_book.specs.Laws.{ComingIn, EntriesFollow, GoingOut, LogOfMember, OneLogChanges, SameStreamsFit}
use Rattle.room_book.specs.Logs.{IsStep, PlaysLog, Replayed, nothing}
use Rattle.room_book.specs.Rooms.{EachFits, LogFits, joints_now, log_of, start, with_log, without, without_log}
use Rattle.room_book.proofs.Turns.{book_both, first_is, plays_both, rest_is, same_sub, since_both, standing_both}

-- numbers

or_left : (a b : Bool) → (a || b) ≡ false → a ≡ false
or_left true b h = h
or_left false b h = refl

or_right : (a b : Bool) → (a || b) ≡ false → b ≡ false
or_right true b h = absurd (cc)
or_right false b h = h

swapped : (i j : SubId) → nat_eq i.0 j.0 ≡ false → nat_eq j.0 i.0 ≡ false
swapped i j h = grind (arith, nat_tests, h)

-- a member is another than one who is none
apart_from : (i x : SubId) (js : List SubId) → is_member i js ≡ true → is_member x js ≡ false → nat_eq i.0 x.0 ≡ false
apart_from i x js at none = by (nat_eq i.0 x.0) refl
  where
    by : (b : Bool) → nat_eq i.0 x.0 ≡ b → b ≡ false
    by true e = let m : is_member x js ≡ true = subst (λ k. is_member k js ≡ true) (same_sub i x e) at in absurd (cc)
    by false e = refl

-- logs

pub entries_follow : EntriesFollow
entries_follow j p log q e r plays is shows = plays_both j p log q (e ∷ []) r plays (r, is, shows, refl)

-- the joints of the others stay as they were

since_coming : (x j : SubId) (number : ℕ) (book : List BookEntry) → nat_eq x.0 j.0 ≡ false → joints_now j number (book ++ In x ∷ []) ≡ joints_now j number book
since_coming x j number book ne = since_both j number [] 0 [] book (In x ∷ []) ∙ ap (λ b. if b then [] else joints_now j number book) ne

since_came : (x : SubId) (number : ℕ) (book : List BookEntry) → joints_now x number (book ++ In x ∷ []) ≡ []
since_came x number book =
    let same : nat_eq x.0 x.0 ≡ true = grind (arith, nat_tests) in
    since_both x number [] 0 [] book (In x ∷ []) ∙ ap (λ b. if b then [] else joints_now x number book) same

since_going : (x j : SubId) (number : ℕ) (book : List BookEntry) → joints_now j number (book ++ Out x ∷ []) ≡ joints_now j number book
since_going x j number book = since_both j number [] 0 [] book (Out x ∷ [])

fits_as : (origin : SubId → Stream) (number : ℕ) (book book' : List BookEntry) (j : SubId) (log : List Marked) (s t : Stream) → joints_now j number book' ≡ joints_now j number book → t ≡ s → LogFits origin number book j log s → LogFits origin number book' j log t
fits_as origin number book book' j log s t joints same h = subst (λ (z : List Joint × Stream). PlaysLog j (start origin j) log (record { stream = z.1; room = number; since = z.0; due = nothing })) (λ i. (sym joints i, sym same i)) h

-- members that stand last

subs_last : (ms : List Member) (m : Member) → subs (ms ++ m ∷ []) ≡ subs ms ++ m.sub ∷ []
subs_last [] m = refl
subs_last (x ∷ ms) m = ap (λ l. x.sub ∷ l) (subs_last ms m)

stream_before : (j : SubId) (ms : List Member) (m : Member) → is_member j (subs ms) ≡ true → stream_of j (ms ++ m ∷ []) ≡ stream_of j ms
stream_before j [] m at = absurd (cc)
stream_before j (x ∷ ms) m at = by (nat_eq x.sub.0 j.0) at (stream_before j ms m)
  where
    by : (b : Bool) → (b || is_member j (subs ms)) ≡ true → (is_member j (subs ms) ≡ true → stream_of j (ms ++ m ∷ []) ≡ stream_of j ms) → (if b then x.stream else stream_of j (ms ++ m ∷ [])) ≡ (if b then x.stream else stream_of j ms)
    by true e rest = refl
    by false e rest = rest e

stream_last : (ms : List Member) (m : Member) → is_member m.sub (subs ms) ≡ false → stream_of m.sub (ms ++ m ∷ []) ≡ m.stream
stream_last [] m none = let same : nat_eq m.sub.0 m.sub.0 ≡ true = grind (arith, nat_tests) in ap (λ b. if b then m.stream else stream_of m.sub []) same
stream_last (x ∷ ms) m none =
    ap (λ b. if b then x.stream else stream_of m.sub (ms ++ m ∷ [])) (or_left (nat_eq x.sub.0 m.sub.0) (is_member m.sub (subs ms)) none)
    ∙ stream_last ms m (or_right (nat_eq x.sub.0 m.sub.0) (is_member m.sub (subs ms)) none)

none_last : (j x : SubId) (js : List SubId) → is_member j js ≡ false → nat_eq x.0 j.0 ≡ false → is_member j (js ++ x ∷ []) ≡ false
none_last j x [] none ne = ap (λ b. b || false) ne
none_last j x (i ∷ js) none ne =
    ap (λ b. b || is_member j (js ++ x ∷ [])) (or_left (nat_eq i.0 j.0) (is_member j js) none) ∙ none_last j x js (or_right (nat_eq i.0 j.0) (is_member j js) none) ne

distinct_last : (js : List SubId) (x : SubId) → Distinct js → is_member x js ≡ false → Distinct (js ++ x ∷ [])
distinct_last [] x h none = (refl, tt)
distinct_last (j ∷ js) x h none = (
  none_last j x js h.0 (swapped j x (or_left (nat_eq j.0 x.0) (is_member x js) none)),
  distinct_last js x h.1 (or_right (nat_eq j.0 x.0) (is_member x js) none),
)

each_coming : (origin : SubId → Stream) (number : ℕ) (ms : List Member) (book : List BookEntry) (m : Member) (l : List Marked) → is_member m.sub (subs ms) ≡ false → LogFits origin number (book ++ In m.sub ∷ []) m.sub l m.stream
    → (js : List SubId) (ls : List (List Marked)) → ((j : SubId) → is_member j js ≡ true → is_member j (subs ms) ≡ true) → EachFits origin number book ms js ls
    → EachFits origin number (book ++ In m.sub ∷ []) (ms ++ m ∷ []) (js ++ m.sub ∷ []) (ls ++ l ∷ [])
each_coming origin number ms book m l none mine [] [] all fits = (fits_as origin number (book ++ In m.sub ∷ []) (book ++ In m.sub ∷ []) m.sub l m.stream (stream_of m.sub (ms ++ m ∷ [])) refl (stream_last ms m none) mine, tt)
each_coming origin number ms book m l none mine [] (k ∷ ls) all fits = absurd fits
each_coming origin number ms book m l none mine (j ∷ js) [] all fits = absurd fits
each_coming origin number ms book m l none mine (j ∷ js) (k ∷ ls) all fits =
    let at = all j (first_is j js) in
    let ne = apart_from j m.sub (subs ms) at none in (
      fits_as origin number book (book ++ In m.sub ∷ []) j k (stream_of j ms) (stream_of j (ms ++ m ∷ [])) (since_coming m.sub j number book (swapped j m.sub ne)) (stream_before j ms m at) fits.0,
      each_coming origin number ms book m l none mine js ls (λ i t. all i (rest_is i j js t)) fits.1,
    )

pub coming_in : ComingIn
coming_in origin number ms logs book m log p mark h none plays same may shows =
    let e : Marked = record { entry = entry.Moved number; mark = mark } in
    let now : Replayed = record { stream = m.stream; room = number; since = []; due = nothing } in
    let is : IsStep m.sub p (entry.Moved number) (count_of mark) now = (may, ap (λ s. let q : Replayed = record { stream = s; room = number; since = []; due = nothing } in q) (sym same)) in
    let moved : PlaysLog m.sub (start origin m.sub) (log ++ e ∷ []) now = entries_follow m.sub (start origin m.sub) log p e now plays is shows in
    let mine : LogFits origin number (book ++ In m.sub ∷ []) m.sub (log ++ e ∷ []) m.stream =
    subst (λ (l : List Joint). PlaysLog m.sub (start origin m.sub) (log ++ e ∷ []) (record { stream = m.stream; room = number; since = l; due = nothing })) (sym (since_came m.sub number book)) moved in
    record {
      members = subs_last ms m ∙ ap (λ l. l ++ m.sub ∷ []) h.members ∙ sym (standing_both [] book (In m.sub ∷ []));
      apart = subst Distinct (sym (subs_last ms m)) (distinct_last (subs ms) m.sub h.apart none);
      is_book = book_both [] book (In m.sub ∷ []) h.is_book tt;
      each = subst (λ (js : List SubId). EachFits origin number (book ++ In m.sub ∷ []) (ms ++ m ∷ []) js (logs ++ (log ++ e ∷ []) ∷ [])) (sym (subs_last ms m))
          (each_coming origin number ms book m (log ++ e ∷ []) none mine (subs ms) logs (λ j t. t) h.each);
    }

-- members that go

subs_without : (x : SubId) (ms : List Member) → subs (without_member x ms) ≡ without x (subs ms)
subs_without x [] = refl
subs_without x (m ∷ ms) = by (nat_eq m.sub.0 x.0) (subs_without x ms)
  where
    by : (b : Bool) → subs (without_member x ms) ≡ without x (subs ms) → subs (if b then ms else m ∷ without_member x ms) ≡ (if b then subs ms else m.sub ∷ without x (subs ms))
    by true e = refl
    by false e = ap (λ l. m.sub ∷ l) e

none_without : (j x : SubId) (js : List SubId) → is_member j js ≡ false → is_member j (without x js) ≡ false
none_without j x [] none = refl
none_without j x (i ∷ js) none = by (nat_eq i.0 x.0) (none_without j x js (or_right (nat_eq i.0 j.0) (is_member j js) none))
  where
    by : (b : Bool) → is_member j (without x js) ≡ false → is_member j (if b then js else i ∷ without x js) ≡ false
    by true e = or_right (nat_eq i.0 j.0) (is_member j js) none
    by false e = ap (λ b. b || is_member j (without x js)) (or_left (nat_eq i.0 j.0) (is_member j js) none) ∙ e

distinct_without : (x : SubId) (js : List SubId) → Distinct js → Distinct (without x js)
distinct_without x [] h = tt
distinct_without x (j ∷ js) h = by (nat_eq j.0 x.0) (distinct_without x js h.1)
  where
    by : (b : Bool) → Distinct (without x js) → Distinct (if b then js else j ∷ without x js)
    by true d = h.1
    by false d = (none_without j x js h.0, d)

stream_without : (j x : SubId) (ms : List Member) → nat_eq j.0 x.0 ≡ false → stream_of j (without_member x ms) ≡ stream_of j ms
stream_without j x [] ne = refl
stream_without j x (m ∷ ms) ne = by (nat_eq m.sub.0 x.0) refl (stream_without j x ms ne)
  where
    by : (b : Bool) → nat_eq m.sub.0 x.0 ≡ b → stream_of j (without_member x ms) ≡ stream_of j ms → stream_of j (if b then ms else m ∷ without_member x ms) ≡ (if nat_eq m.sub.0 j.0 then m.stream else stream_of j ms)
    by true e rest =
        let other : nat_eq m.sub.0 j.0 ≡ false = grind (arith, nat_tests, e, ne) in
        sym (ap (λ b. if b then m.stream else stream_of j ms) other)
    by false e rest = ap (λ s. if nat_eq m.sub.0 j.0 then m.stream else s) rest

-- where x is none of these, all logs stay
each_stays : (origin : SubId → Stream) (number : ℕ) (ms : List Member) (book : List BookEntry) (x : SubId) (js : List SubId) (ls : List (List Marked)) → is_member x js ≡ false → EachFits origin number book ms js ls
    → EachFits origin number (book ++ Out x ∷ []) (without_member x ms) js ls
each_stays origin number ms book x [] [] none fits = tt
each_stays origin number ms book x [] (k ∷ ls) none fits = absurd fits
each_stays origin number ms book x (j ∷ js) [] none fits = absurd fits
each_stays origin number ms book x (j ∷ js) (k ∷ ls) none fits = (
  fits_as origin number book (book ++ Out x ∷ []) j k (stream_of j ms) (stream_of j (without_member x ms)) (since_going x j number book) (stream_without j x ms (or_left (nat_eq j.0 x.0) (is_member x js) none)) fits.0,
  each_stays origin number ms book x js ls (or_right (nat_eq j.0 x.0) (is_member x js) none) fits.1,
)

each_going : (origin : SubId → Stream) (number : ℕ) (ms : List Member) (book : List BookEntry) (x : SubId) (js : List SubId) (ls : List (List Marked)) → Distinct js → EachFits origin number book ms js ls
    → EachFits origin number (book ++ Out x ∷ []) (without_member x ms) (without x js) (without_log x js ls)
each_going origin number ms book x [] [] apart fits = tt
each_going origin number ms book x [] (k ∷ ls) apart fits = absurd fits
each_going origin number ms book x (j ∷ js) [] apart fits = absurd fits
each_going origin number ms book x (j ∷ js) (k ∷ ls) apart fits = by (nat_eq j.0 x.0) refl (each_going origin number ms book x js ls apart.1 fits.1)
  where
    by : (b : Bool) → nat_eq j.0 x.0 ≡ b → EachFits origin number (book ++ Out x ∷ []) (without_member x ms) (without x js) (without_log x js ls)
        → EachFits origin number (book ++ Out x ∷ []) (without_member x ms) (if b then js else j ∷ without x js) (if b then ls else k ∷ without_log x js ls)
    by true e rest = each_stays origin number ms book x js ls (subst (λ i. is_member i js ≡ false) (same_sub j x e) apart.0) fits.1
    by false e rest = (fits_as origin number book (book ++ Out x ∷ []) j k (stream_of j ms) (stream_of j (without_member x ms)) (since_going x j number book) (stream_without j x ms e) fits.0, rest)

pub going_out : GoingOut
going_out origin number ms logs book x h at = record {
  members = subs_without x ms ∙ ap (without x) h.members ∙ sym (standing_both [] book (Out x ∷ []));
  apart = subst Distinct (sym (subs_without x ms)) (distinct_without x (subs ms) h.apart);
  is_book = book_both [] book (Out x ∷ []) h.is_book tt;
  each = subst (λ (js : List SubId). EachFits origin number (book ++ Out x ∷ []) (without_member x ms) js (without_log x (subs ms) logs)) (sym (subs_without x ms)) (each_going origin number ms book x (subs ms) logs h.apart h.each);
}

log_at : (origin : SubId → Stream) (number : ℕ) (ms : List Member) (book : List BookEntry) (x : SubId) (js : List SubId) (ls : List (List Marked)) → is_member x js ≡ true → EachFits origin number book ms js ls → LogFits origin number book x (log_of x js ls) (stream_of x ms)
log_at origin number ms book x [] ls at fits = absurd (cc)
log_at origin number ms book x (j ∷ js) [] at fits = absurd fits
log_at origin number ms book x (j ∷ js) (k ∷ ls) at fits = by (nat_eq j.0 x.0) refl at (log_at origin number ms book x js ls)
  where
    by : (b : Bool) → nat_eq j.0 x.0 ≡ b → (b || is_member x js) ≡ true → (is_member x js ≡ true → EachFits origin number book ms js ls → LogFits origin number book x (log_of x js ls) (stream_of x ms))
        → LogFits origin number book x (if b then k else log_of x js ls) (stream_of x ms)
    by true e is rest = subst (λ (i : SubId). LogFits origin number book i k (stream_of i ms)) (same_sub j x e) fits.0
    by false e is rest = rest is fits.1

pub log_of_member : LogOfMember
log_of_member origin number ms logs book x h at = log_at origin number ms book x (subs ms) logs at h.each

each_changed : (origin : SubId → Stream) (number : ℕ) (ms : List Member) (book : List BookEntry) (x : SubId) (log : List Marked) → LogFits origin number book x log (stream_of x ms)
    → (js : List SubId) (ls : List (List Marked)) → EachFits origin number book ms js ls → EachFits origin number book ms js (with_log x log js ls)
each_changed origin number ms book x log mine [] [] fits = tt
each_changed origin number ms book x log mine [] (k ∷ ls) fits = absurd fits
each_changed origin number ms book x log mine (j ∷ js) [] fits = absurd fits
each_changed origin number ms book x log mine (j ∷ js) (k ∷ ls) fits = (by (nat_eq j.0 x.0) refl, each_changed origin number ms book x log mine js ls fits.1)
  where
    by : (b : Bool) → nat_eq j.0 x.0 ≡ b → LogFits origin number book j (if b then log else k) (stream_of j ms)
    by true e = subst (λ (i : SubId). LogFits origin number book i log (stream_of i ms)) (sym (same_sub j x e)) mine
    by false e = fits.0

pub one_log_changes : OneLogChanges
one_log_changes origin number ms logs book x log h mine = record { members = h.members; apart = h.apart; is_book = h.is_book; each = each_changed origin number ms book x log mine (subs ms) logs h.each }

each_same : (origin : SubId → Stream) (number : ℕ) (ms ns : List Member) (book : List BookEntry) → ((j : SubId) → stream_of j ns ≡ stream_of j ms) → (js : List SubId) (ls : List (List Marked)) → EachFits origin number book ms js ls → EachFits origin number book ns js ls
each_same origin number ms ns book same [] [] fits = tt
each_same origin number ms ns book same [] (k ∷ ls) fits = absurd fits
each_same origin number ms ns book same (j ∷ js) [] fits = absurd fits
each_same origin number ms ns book same (j ∷ js) (k ∷ ls) fits = (fits_as origin number book book j k (stream_of j ms) (stream_of j ns) refl (same j) fits.0, each_same origin number ms ns book same js ls fits.1)

pub same_streams_fit : SameStreamsFit
same_streams_fit origin number ms ns logs book numbers same h = record {
  members = numbers ∙ h.members;
  apart = subst Distinct (sym numbers) h.apart;
  is_book = h.is_book;
  each = subst (λ (js : List SubId). EachFits origin number book ns js logs) (sym numbers) (each_same origin number ms ns book same (subs ms) logs h.each);
}
