-- Bytes come to one answer.
use Rattle.std.proofs.Common.{◌≡◌, ◌≤◌, ◌<◌, ℕ, ◌+◌, ◌-◌, ◌^◌, Bool, true, false, List, [], ◌∷◌, ◌++◌, length, min, refl, sym, ◌∙◌, ap, subst, inl, inr, ◌⊎◌, arith, None, Some, length-append, append_assoc, append-nil, nat_lt}
use Rattle.std.specs.Prelude.{◌≢◌}
use Rattle.std.proofs.lemmas.Bool.{cases_lt}
use Rattle.std.proofs.lemmas.Bool.Decides.{nat_tests}
use Rattle.std.proofs.lemmas.List.{take_all}
use Rattle.pcm_line.specs.declared.error.LineError.{LineError}
use Rattle.pcm_line.specs.declared.error.LineError.TheVariants.{Short}
use Rattle.pcm_line.specs.declared.line.Line.{Line}
use Rattle.pcm_line.specs.Grammar.{IsLine}
use Rattle.pcm_line.proofs.Spellings.{one-meaning}
use Rattle.pcm_line.proofs.GrammarLaws.{line-no-fault, one-fault}
use Rattle.pcm_text.specs.declared.status.Which.{Which}
use Rattle.pcm_text.specs.declared.status.Which.TheVariants.{PlanBytes, PlanLines, Beats}
use Rattle.live_plan.specs.declared.part.Part.TheVariants.{End}
use Rattle.live_plan.specs.Lines.{lines_of, plan_lines, front_of, is_over, is_last, line_limit, byte_limit, beat_limit}
use Rattle.live_plan.specs.Plan.{Begins, HasFault, IsSaid, IsReached, IsBadLine, IsOver, Answer, Whole, Bad, Over, ComesTo}
use Rattle.live_plan.specs.Rules.{fault_of}
use Rattle.live_plan.specs.Said.{Said, Nothing, Then, count_of, part_of, beat_sum}
use Rattle.live_plan.proofs.SoundLemmas.{begins_count}

-- ---- one list, cut twice

same_split : {X : Type 0} (xs ys zs ws : List X) → xs ++ ys ≡ zs ++ ws → length xs ≡ length zs → (xs ≡ zs) × (ys ≡ ws)
same_split [] ys [] ws e n = (refl, e)
same_split [] ys (z ∷ zs) ws e n = absurd (omega (arith, n))
same_split (x ∷ xs) ys [] ws e n = absurd (omega (arith, n))
same_split {X} (x ∷ xs) ys (z ∷ zs) ws e n =
    let head : x ≡ z = cc in
    let tail : xs ++ ys ≡ zs ++ ws = cc in
    let r = same_split xs ys zs ws tail (omega (arith, n)) in
    (ap (λ (a : X). a ∷ xs) head ∙ ap (λ (l : List X). z ∷ l) r.0, r.1)

-- a last line behind others
last_split : (front other : List (List ℕ)) (bytes here : List ℕ) → front ++ bytes ∷ [] ≡ other ++ here ∷ [] → (front ≡ other) × (bytes ≡ here)
last_split front other bytes here e =
    let n : length front + 1 ≡ length other + 1 = sym (length-append front (bytes ∷ [])) ∙ ap length e ∙ length-append other (here ∷ []) in
    let r = same_split front (bytes ∷ []) other (here ∷ []) e (omega (arith, n)) in
    let last : bytes ≡ here = (let f = r.1 in cc) in
    (r.0, last)

-- ---- lines that are said say one thing

none_behind : {A : Type 0} (lines front : List (List ℕ)) (bytes : List ℕ) → lines ≡ [] → lines ≡ front ++ bytes ∷ [] → A
none_behind lines front bytes e f =
    let n : 0 ≡ length front + 1 = sym (ap length e) ∙ ap length f ∙ length-append front (bytes ∷ []) in
    absurd (omega (arith, n))

pub one_said : (lines : List (List ℕ)) (a b : Said) → Begins lines a → Begins lines b → a ≡ b
one_said lines Nothing Nothing x y = refl
one_said lines Nothing (Then b other) x y = none_behind lines y.front y.bytes x y.cut
one_said lines (Then a line) Nothing x y = none_behind lines x.front x.bytes y x.cut
one_said lines (Then a line) (Then b other) x y =
    let same = last_split x.front y.front x.bytes y.bytes (sym x.cut ∙ y.cut) in
    let before : a ≡ b = one_said x.front a b x.before (subst (λ (l : List (List ℕ)). Begins l b) (sym same.0) y.before) in
    let means : line ≡ other = one-meaning x.bytes line other x.says (subst (λ (l : List ℕ). IsLine l other) (sym same.1) y.says) in
    ap (λ (s : Said). Then s line) before ∙ ap (λ (l : Line). Then b l) means

-- ---- a line that may stand where it does

record Passes (said : Said) (here : List ℕ) : Type 0 where
  line : Line
  says : IsLine here line
  stands : fault_of said line here ≡ None

no_fault : (said : Said) (here : List ℕ) (fault : LineError) → Passes said here → HasFault said here fault → ⊥
no_fault said here fault p (inl f) = line-no-fault here p.line fault p.says f
no_fault said here fault p (inr h) =
    let same : h.0 ≡ p.line = one-meaning here h.0 p.line h.1 p.says in
    let none : Some fault ≡ None = sym h.2 ∙ (ap (λ (l : Line). fault_of said l here) same ∙ p.stands) in cc

one_why : (said : Said) (here : List ℕ) (a b : LineError) → HasFault said here a → HasFault said here b → a ≡ b
one_why said here a b (inl x) (inl y) = one-fault here a b x y
one_why said here a b (inl x) (inr y) = absurd (line-no-fault here y.0 a y.1 x)
one_why said here a b (inr x) (inl y) = absurd (line-no-fault here x.0 b x.1 y)
one_why said here a b (inr x) (inr y) =
    let same : x.0 ≡ y.0 = one-meaning here x.0 y.0 x.1 y.1 in
    let both : Some a ≡ Some b = sym x.2 ∙ (ap (λ (l : Line). fault_of said l here) same ∙ y.2) in cc

-- the line behind a sound beginning passes where a longer one is sound, and others follow it, or those behind the longer one
passes_before : (front : List (List ℕ)) (here : List ℕ) (others : List (List ℕ)) (said : Said) → Begins front said → (longer rest : List (List ℕ)) (more : Said) → Begins longer more
    → front ++ here ∷ others ≡ longer ++ rest → length front < length longer → Passes said here × ((0 < length others) ⊎ (others ≡ rest))
passes_before front here others said x longer rest Nothing y cut less = absurd (let n : length longer ≡ 0 = ap length y in omega (arith, n, less))
passes_before front here others said x longer rest (Then more line) y cut less =
    let size : length longer ≡ length y.front + 1 = ap length y.cut ∙ length-append y.front (y.bytes ∷ []) in
    let whole : front ++ here ∷ others ≡ y.front ++ y.bytes ∷ rest = cut ∙ ap (λ (l : List (List ℕ)). l ++ rest) y.cut ∙ append_assoc y.front (y.bytes ∷ []) rest in
    elim (cases_lt (length front) (length y.front)) [
      | inl shorter ↦
          let r = passes_before front here others said x y.front (y.bytes ∷ rest) more y.before whole shorter in
          (r.0, elim r.1 [ inl some ↦ inl some | inr same ↦ inl (let n : length others ≡ length rest + 1 = ap length same ∙ omega arith in omega (arith, n)) ])
      | inr longest ↦
          let r = same_split front (here ∷ others) y.front (y.bytes ∷ rest) whole (omega (arith, size, less, longest)) in
          let first : here ≡ y.bytes = (let e = r.1 in cc) in
          let behind : others ≡ rest = (let e = r.1 in cc) in
          let same : said ≡ more = one_said front said more x (subst (λ (l : List (List ℕ)). Begins l more) (sym r.0) y.before) in (
            record {
              line = line;
              says = subst (λ (l : List ℕ). IsLine l line) (sym first) y.says;
              stands = ap (λ (s : Said). fault_of s line here) same ∙ ap (λ (l : List ℕ). fault_of more line l) first ∙ y.stands;
            },
            inr behind,
          )
    ]

-- ---- where the lines end, or stop

data IsStopped (over : Bool) (said : Said) (here : List ℕ) (others : List (List ℕ)) (a : Answer) : Type 0 where
  at_lines : count_of said ≡ line_limit → a ≡ Over PlanLines (line_limit + 1) → IsStopped over said here others a
  at_bytes : count_of said < line_limit → is_last over others ≡ true → a ≡ Over PlanBytes (byte_limit + 1) → IsStopped over said here others a
  at_fault : count_of said < line_limit → is_last over others ≡ false → (fault : LineError) → HasFault said here fault → a ≡ Bad (count_of said + 1) fault → IsStopped over said here others a

data IsEnded (over : Bool) (said : Said) (a : Answer) : Type 0 where
  too_short : over ≡ false → count_of said ≤ line_limit → part_of said ≢ End → a ≡ Bad (count_of said + 1) Short → IsEnded over said a
  too_many : over ≡ false → count_of said ≤ line_limit → part_of said ≡ End → beat_limit < beat_sum said → a ≡ Over Beats (min (beat_sum said) (2 ^ 64 - 1)) → IsEnded over said a
  whole : over ≡ false → count_of said ≤ line_limit → part_of said ≡ End → beat_sum said ≤ beat_limit → a ≡ Whole said → IsEnded over said a

abbrev EndsAt : Bool → Said → List (List ℕ) → Answer → Type 0
EndsAt over said [] a = IsEnded over said a
EndsAt over said (here ∷ others) a = IsStopped over said here others a

record Stops (plan : List ℕ) (a : Answer) : Type 0 where
  front : List (List ℕ)
  rest : List (List ℕ)
  said : Said
  cut : plan_lines plan ≡ front ++ rest
  begins : Begins front said
  ends : EndsAt (is_over plan) said rest a

false_true : {A : Type 0} → false ≡ true → A
false_true e = cc

one_stop : (over : Bool) (said : Said) (here : List ℕ) (others : List (List ℕ)) (a b : Answer) → IsStopped over said here others a → IsStopped over said here others b → a ≡ b
one_stop over said here others a b (at_lines x e) (at_lines y f) = e ∙ sym f
one_stop over said here others a b (at_lines x e) (at_bytes y l f) = absurd (omega (arith, x, y))
one_stop over said here others a b (at_lines x e) (at_fault y l w why f) = absurd (omega (arith, x, y))
one_stop over said here others a b (at_bytes x k e) (at_lines y f) = absurd (omega (arith, x, y))
one_stop over said here others a b (at_bytes x k e) (at_bytes y l f) = e ∙ sym f
one_stop over said here others a b (at_bytes x k e) (at_fault y l w why f) = false_true (sym l ∙ k)
one_stop over said here others a b (at_fault x k v how e) (at_lines y f) = absurd (omega (arith, x, y))
one_stop over said here others a b (at_fault x k v how e) (at_bytes y l f) = false_true (sym k ∙ l)
one_stop over said here others a b (at_fault x k v how e) (at_fault y l w why f) = e ∙ ap (λ (z : LineError). Bad (count_of said + 1) z) (one_why said here v w how why) ∙ sym f

one_end : (over : Bool) (said : Said) (a b : Answer) → IsEnded over said a → IsEnded over said b → a ≡ b
one_end over said a b (too_short o c p e) (too_short q d r f) = e ∙ sym f
one_end over said a b (too_short o c p e) (too_many q d r m f) = absurd (p r)
one_end over said a b (too_short o c p e) (whole q d r m f) = absurd (p r)
one_end over said a b (too_many o c p n e) (too_short q d r f) = absurd (r p)
one_end over said a b (too_many o c p n e) (too_many q d r m f) = e ∙ sym f
one_end over said a b (too_many o c p n e) (whole q d r m f) = absurd (omega (arith, n, m))
one_end over said a b (whole o c p n e) (too_short q d r f) = absurd (r p)
one_end over said a b (whole o c p n e) (too_many q d r m f) = absurd (omega (arith, n, m))
one_end over said a b (whole o c p n e) (whole q d r m f) = e ∙ sym f

one_here : (over : Bool) (said : Said) (rest : List (List ℕ)) (a b : Answer) → EndsAt over said rest a → EndsAt over said rest b → a ≡ b
one_here over said [] a b x y = one_end over said a b x y
one_here over said (here ∷ others) a b x y = one_stop over said here others a b x y

-- where the lines end or stop there are no more than the limit, and no byte past the limit is in a line before
few_lines : (over : Bool) (said : Said) (rest : List (List ℕ)) (a : Answer) → EndsAt over said rest a → (count_of said ≤ line_limit) × (is_last over rest ≡ false)
few_lines over said [] a (too_short o c p e) = (c, o)
few_lines over said [] a (too_many o c p n e) = (c, o)
few_lines over said [] a (whole o c p n e) = (c, o)
few_lines over said (here ∷ others) a (at_lines x e) = (omega (arith, x), refl)
few_lines over said (here ∷ others) a (at_bytes x k e) = (omega (arith, x), refl)
few_lines over said (here ∷ others) a (at_fault x k w why e) = (omega (arith, x), refl)

not_last : (over : Bool) (others : List (List ℕ)) → 0 < length others → is_last over others ≡ false
not_last over [] some = absurd (omega (arith, some))
not_last over (line ∷ others) some = refl

-- a line that passes is none at which the lines stop
goes_on : (over : Bool) (said : Said) (here : List ℕ) (others : List (List ℕ)) (a : Answer) → Passes said here → count_of said < line_limit → is_last over others ≡ false → IsStopped over said here others a → ⊥
goes_on over said here others a p few open_ (at_lines x e) = omega (arith, x, few)
goes_on over said here others a p few open_ (at_bytes x k e) = false_true (sym open_ ∙ k)
goes_on over said here others a p few open_ (at_fault x k w why e) = no_fault said here w p why

no_earlier : (plan : List ℕ) (a b : Answer) → (x : Stops plan a) → (y : Stops plan b) → length x.front < length y.front → ⊥
no_earlier plan a b x y less = at_rest x.rest refl
  where
    count_x : length x.front ≡ count_of x.said
    count_x = begins_count x.front x.said x.begins

    count_y : length y.front ≡ count_of y.said
    count_y = begins_count y.front y.said y.begins

    there : (count_of y.said ≤ line_limit) × (is_last (is_over plan) y.rest ≡ false)
    there = few_lines (is_over plan) y.said y.rest b y.ends

    at_rest : (rest : List (List ℕ)) → x.rest ≡ rest → ⊥
    at_rest [] e =
        let cut : length x.front ≡ length y.front + length y.rest = sym (ap length (append-nil x.front)) ∙ (ap (λ (l : List (List ℕ)). length (x.front ++ l)) (sym e) ∙ ap length (sym x.cut ∙ y.cut) ∙ length-append y.front y.rest) in
        omega (arith, cut, less)
    at_rest (here ∷ others) e =
        let cut : x.front ++ here ∷ others ≡ y.front ++ y.rest = ap (λ (l : List (List ℕ)). x.front ++ l) (sym e) ∙ (sym x.cut ∙ y.cut) in
        let p = passes_before x.front here others x.said x.begins y.front y.rest y.said y.begins cut less in
        let open_ : is_last (is_over plan) others ≡ false = elim p.1 [ inl some ↦ not_last (is_over plan) others some | inr same ↦ ap (λ (l : List (List ℕ)). is_last (is_over plan) l) same ∙ there.1 ] in
        goes_on (is_over plan) x.said here others a p.0 (let most = there.0 in omega (arith, count_x, count_y, less, most)) open_ (subst (λ (l : List (List ℕ)). EndsAt (is_over plan) x.said l a) e x.ends)

one_stops : (plan : List ℕ) (a b : Answer) → Stops plan a → Stops plan b → a ≡ b
one_stops plan a b x y = elim (cases_lt (length x.front) (length y.front)) [
  | inl less ↦ absurd (no_earlier plan a b x y less)
  | inr most ↦ elim (cases_lt (length y.front) (length x.front)) [
    | inl less ↦ absurd (no_earlier plan b a y x less)
    | inr least ↦
        let r = same_split x.front x.rest y.front y.rest (sym x.cut ∙ y.cut) (omega (arith, most, least)) in
        let said : x.said ≡ y.said = one_said x.front x.said y.said x.begins (subst (λ (l : List (List ℕ)). Begins l y.said) (sym r.0) y.begins) in
        one_here (is_over plan) y.said y.rest a b
        (subst (λ (l : List (List ℕ)). EndsAt (is_over plan) y.said l a) r.1 (subst (λ (s : Said). EndsAt (is_over plan) s x.rest a) said x.ends)) y.ends
  ]
]

-- ---- each answer is where the lines end or stop

not_lt : (a b : ℕ) → b ≤ a → nat_lt a b ≡ false
not_lt a b le = grind (arith, nat_tests)

few_over : (plan : List ℕ) → length plan ≤ byte_limit → (front_of plan ≡ plan) × (is_over plan ≡ false)
few_over plan few =
    let same : front_of plan ≡ plan = take_all (byte_limit + 1) plan (omega (arith, few)) in
    let size : length (front_of plan) ≡ length plan = ap length same in
    (same, not_lt byte_limit (length (front_of plan)) (omega (arith, size, few)))

record AtEnd (plan : List ℕ) (said : Said) : Type 0 where
  cut : plan_lines plan ≡ lines_of plan ++ []
  begins : Begins (lines_of plan) said
  over : is_over plan ≡ false
  count : count_of said ≤ line_limit

at_end : (plan : List ℕ) (said : Said) → IsSaid plan said → AtEnd plan said
at_end plan said s =
    let f = few_over plan s.few in
    let n = begins_count (lines_of plan) said s.begins in
    let most = s.lines in
    record { cut = ap lines_of f.0 ∙ sym (append-nil (lines_of plan)); begins = s.begins; over = f.1; count = omega (arith, n, most) }

ended : (plan : List ℕ) (said : Said) (a : Answer) → AtEnd plan said → IsEnded (is_over plan) said a → Stops plan a
ended plan said a e h = record { front = lines_of plan; rest = []; said = said; cut = e.cut; begins = e.begins; ends = h }

stopped : (plan : List ℕ) (said : Said) (here : List ℕ) (others : List (List ℕ)) (a : Answer) → IsReached plan said here others → IsStopped (is_over plan) said here others a → Stops plan a
stopped plan said here others a r h = record { front = r.front; rest = here ∷ others; said = said; cut = r.cut; begins = r.begins; ends = h }

stops_bad : (plan : List ℕ) (number : ℕ) (fault : LineError) → IsBadLine plan number fault → Stops plan (Bad number fault)
stops_bad plan number fault (inl h) =
    stopped plan h.said h.here h.others (Bad number fault) h.reached (at_fault h.lines h.few fault h.wrong (ap (λ (n : ℕ). Bad n fault) h.at))
stops_bad plan number fault (inr h) =
    let e = at_end plan h.said h.lines in
    ended plan h.said (Bad number fault) e (too_short e.over e.count h.lacks (ap (λ (n : ℕ). Bad n fault) h.at ∙ ap (λ (f : LineError). Bad (count_of h.said + 1) f) h.short))

stops_over : (plan : List ℕ) (which : Which) (value : ℕ) → IsOver plan which value → Stops plan (Over which value)
stops_over plan PlanLines value h = stopped plan h.said h.here h.others (Over PlanLines value) h.reached (at_lines h.full (ap (λ (n : ℕ). Over PlanLines n) h.above))
stops_over plan PlanBytes value h = stopped plan h.said h.here [] (Over PlanBytes value) h.reached (at_bytes h.lines h.over (ap (λ (n : ℕ). Over PlanBytes n) h.above))
stops_over plan Beats value h =
    let e = at_end plan h.said h.lines in
    ended plan h.said (Over Beats value) e (too_many e.over e.count h.parts h.many (ap (λ (n : ℕ). Over Beats n) h.above))
stops_over plan _ value h = absurd h

stops : (plan : List ℕ) (a : Answer) → ComesTo plan a → Stops plan a
stops plan (Whole said) h =
    let e = at_end plan said h.lines in
    ended plan said (Whole said) e (whole e.over e.count h.parts h.beats refl)
stops plan (Bad number fault) h = stops_bad plan number fault h
stops plan (Over which value) h = stops_over plan which value h

pub comes_to_one : (plan : List ℕ) (a b : Answer) → ComesTo plan a → ComesTo plan b → a ≡ b
comes_to_one plan a b x y = one_stops plan a b (stops plan a x) (stops plan b y)
