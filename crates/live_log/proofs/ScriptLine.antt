-- The line of an event ends with its bytes, where the form has some.
use Rattle.std.proofs.Common.{◌≡◌, ℕ, zero, suc, ◌-◌, ◌/◌, ◌%◌, ◌<◌, ◌≤◌, List, [], ◌∷◌, ◌++◌, length, take, refl, sym, ◌∙◌, ap, arith, append_assoc, length-append, get_or, w8, Fits, Result, Ok, Err, OnOk, ◌⊎◌, inl, inr}
use Rattle.std.specs.declared.alloc.AllocError.{AllocError}
use Rattle.pcm_base.specs.declared.call.Layout.{Layout}
use Rattle.pcm_base.specs.declared.call.Mode.{Mode}
use Rattle.std.specs.List.{AllByRecursion}
use Rattle.std.proofs.lemmas.List.{take_at}
use Rattle.std.specs.declared.option.Option.{Option}
use Rattle.pcm_base.specs.declared.ids.ClientId.{ClientId}
use Rattle.pcm_base.specs.declared.ids.SubId.{SubId}
use Rattle.pcm_base.specs.declared.call.Call.{Call}
use Rattle.pcm_base.specs.declared.call.Call.TheVariants as call
use Rattle.pcm_base.specs.declared.call.Event.{Event}
use Rattle.pcm_line.specs.Kinds.{OfMode, OfNumber, spelled, hex_digit as line_digit, hex_pairs as line_pairs, hex_text as line_hex}
use Rattle.pcm_line.specs.Pieces.{joined}
use Rattle.pcm_line.specs.Spelling.{call_word, call_texts, client_texts, sub_texts, spelling}
use Rattle.pcm_line.specs.declared.line.Line.TheVariants as line
use Rattle.pcm_text.specs.Hex.{hex_digit, hex_pairs, hex_text}

digit-same : (n : ℕ) → n < 16 → hex_digit n ≡ line_digit n
digit-same zero h = refl
digit-same (suc zero) h = refl
digit-same (suc (suc zero)) h = refl
digit-same (suc (suc (suc zero))) h = refl
digit-same (suc (suc (suc (suc zero)))) h = refl
digit-same (suc (suc (suc (suc (suc zero))))) h = refl
digit-same (suc (suc (suc (suc (suc (suc zero)))))) h = refl
digit-same (suc (suc (suc (suc (suc (suc (suc zero))))))) h = refl
digit-same (suc (suc (suc (suc (suc (suc (suc (suc zero)))))))) h = refl
digit-same (suc (suc (suc (suc (suc (suc (suc (suc (suc zero))))))))) h = refl
digit-same (suc (suc (suc (suc (suc (suc (suc (suc (suc (suc zero)))))))))) h = refl
digit-same (suc (suc (suc (suc (suc (suc (suc (suc (suc (suc (suc zero))))))))))) h = refl
digit-same (suc (suc (suc (suc (suc (suc (suc (suc (suc (suc (suc (suc zero)))))))))))) h = refl
digit-same (suc (suc (suc (suc (suc (suc (suc (suc (suc (suc (suc (suc (suc zero))))))))))))) h = refl
digit-same (suc (suc (suc (suc (suc (suc (suc (suc (suc (suc (suc (suc (suc (suc zero)))))))))))))) h = refl
digit-same (suc (suc (suc (suc (suc (suc (suc (suc (suc (suc (suc (suc (suc (suc (suc zero))))))))))))))) h = refl
digit-same (suc (suc (suc (suc (suc (suc (suc (suc (suc (suc (suc (suc (suc (suc (suc (suc n)))))))))))))))) h = absurd (omega arith)

pairs-same : (bytes : List ℕ) → AllByRecursion (λ b. b < 256) bytes → hex_pairs bytes ≡ line_pairs bytes
pairs-same [] h = refl
pairs-same (b ∷ bytes) h =
    let high : hex_digit (b / 16) ≡ line_digit (b / 16) = digit-same (b / 16) (omega (arith, h.0)) in
    let low : hex_digit (b % 16) ≡ line_digit (b % 16) = digit-same (b % 16) (omega arith) in
    ap (λ d. d ∷ hex_digit (b % 16) ∷ hex_pairs bytes) high ∙ ap (λ d. line_digit (b / 16) ∷ d ∷ hex_pairs bytes) low
    ∙ ap (λ t. line_digit (b / 16) ∷ line_digit (b % 16) ∷ t) (pairs-same bytes h.1)

-- a transcript and a script spell bytes alike
pub hex-same : (bytes : List ℕ) → AllByRecursion (λ b. b < 256) bytes → hex_text bytes ≡ line_hex bytes
hex-same [] h = refl
hex-same (b ∷ bytes) h = pairs-same (b ∷ bytes) h

joined-last : (first : List ℕ) (pieces : List (List ℕ)) (last : List ℕ) → joined first (pieces ++ last ∷ []) ≡ joined first pieces ++ 32 ∷ last
joined-last first [] last = refl
joined-last first (piece ∷ pieces) last = joined-last (first ++ 32 ∷ piece) pieces last

-- the pieces before the bytes
abbrev pub before_bytes : Call → List (List ℕ)
before_bytes (call.Write layout mode) = spelled OfMode mode ∷ []
before_bytes (call.Store offset) = spelled OfNumber offset ∷ []
before_bytes c = []

-- the line as far as the space before the bytes
abbrev pub line_before : Call → Option ClientId → SubId → List ℕ
line_before c client sub = joined (call_word c) ((client_texts client ++ sub_texts c sub) ++ before_bytes c) ++ 32 ∷ []

ends : (c : Call) (client : Option ClientId) (sub : SubId) (hex : List ℕ) (texts : List (List ℕ)) → texts ≡ before_bytes c ++ hex ∷ []
    → joined (call_word c) (client_texts client ++ (sub_texts c sub ++ texts)) ≡ line_before c client sub ++ hex
ends c client sub hex texts is =
    let front = client_texts client ++ sub_texts c sub in
    ap (λ t. joined (call_word c) t)
    (sym (append_assoc (client_texts client) (sub_texts c sub) texts) ∙ ap (λ t. front ++ t) is ∙ sym (append_assoc front (before_bytes c) (hex ∷ [])))
    ∙ joined-last (call_word c) (front ++ before_bytes c) hex
    ∙ sym (append_assoc (joined (call_word c) (front ++ before_bytes c)) (32 ∷ []) hex)

-- the bytes stand last in the call's pieces
abbrev pub EndsWithBytes : Call → Type 0
EndsWithBytes c = (bytes : List ℕ) → call_texts c bytes ≡ before_bytes c ++ line_hex bytes ∷ []

pub line-ends : (e : Event) (bytes : List ℕ) → EndsWithBytes e.call → spelling (line.Event e bytes) ≡ line_before e.call e.client e.sub ++ line_hex bytes
line-ends e bytes last = ends e.call e.client e.sub (line_hex bytes) (call_texts e.call bytes) (last bytes)

pub not-empty : (e : Event) (old text : List ℕ) → EndsWithBytes e.call → text ≡ old ++ spelling (line.Event e []) → 1 ≤ length text
not-empty e old text last is =
    let front = line_before e.call e.client e.sub in
    let whole : text ≡ (old ++ front) ++ 45 ∷ [] = is ∙ ap (λ t. old ++ t) (line-ends e [] last) ∙ sym (append_assoc old front (45 ∷ [])) in
    omega (arith, ap length whole, length-append (old ++ front) (45 ∷ []))

-- bytes in the place of the mark for none
pub in-place : (e : Event) (old text cut new bytes : List ℕ) → EndsWithBytes e.call → AllByRecursion (λ b. b < 256) bytes → text ≡ old ++ spelling (line.Event e [])
    → cut ≡ take (length text - 1) text → new ≡ cut ++ hex_text bytes → new ≡ old ++ spelling (line.Event e bytes)
in-place e old text cut new bytes last typed is short put =
    let front = line_before e.call e.client e.sub in
    let whole : text ≡ (old ++ front) ++ 45 ∷ [] = is ∙ ap (λ t. old ++ t) (line-ends e [] last) ∙ sym (append_assoc old front (45 ∷ [])) in
    let size : length (old ++ front) ≡ length text - 1 = omega (arith, ap length whole, length-append (old ++ front) (45 ∷ [])) in
    let kept : cut ≡ old ++ front = short ∙ ap (λ t. take (length text - 1) t) whole ∙ take_at (old ++ front) (45 ∷ []) (length text - 1) size in
    put ∙ ap (λ t. t ++ hex_text bytes) kept ∙ ap (λ t. (old ++ front) ++ t) (hex-same bytes typed) ∙ append_assoc old front (line_hex bytes)
    ∙ ap (λ t. old ++ t) (sym (line-ends e bytes last))

-- what is known of each place holds of all bytes
pub all-bytes : (bytes : List ℕ) → ((k : ℕ) → Fits w8 (get_or bytes k 0)) → AllByRecursion (λ b. b < 256) bytes
all-bytes [] h = tt
all-bytes (b ∷ bytes) h = ((h zero).fits, all-bytes bytes (λ k. h (suc k)))

-- a call whose line takes bytes has them last
pub takes-bytes : (c : Call) → ((layout : Layout) × (mode : Mode) × (c ≡ call.Write layout mode)) ⊎ ((offset : ℕ) × (c ≡ call.Store offset)) ⊎ (c ≡ call.Give) → EndsWithBytes c
takes-bytes c (inl write) bytes = rw write.2 refl
takes-bytes c (inr (inl store)) bytes = rw store.1 refl
takes-bytes c (inr (inr give)) bytes = rw give refl

pub on-ok : {P Q : Type 0} (r : Result (Unit {0}) AllocError) → (P → Q) → OnOk r P → OnOk r Q
on-ok (Ok u) f p = f p
on-ok (Err e) f p = tt
