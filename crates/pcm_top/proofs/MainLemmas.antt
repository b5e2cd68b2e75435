-- What words that ask for one thing say of another.
use Rattle.std.proofs.Common.{Some, ◌≡◌, ◌≢◌, ℕ, false, List, None, sym, ap, subst}
use Rattle.std.specs.Prelude.{IfSome, ⊤}
use Rattle.std.specs.declared.option.Option.{Option}
use Rattle.pcm_top.specs.declared.command.Command.{Command}
use Rattle.pcm_top.specs.declared.request.Request.{Request}
use Rattle.pcm_top.specs.declared.request.Request.TheVariants as request
use Rattle.pcm_top.specs.Request.{Asks, asked}
use Rattle.pcm_top.proofs.RequestLemmas.{is_script, none-asked, one-request, other-asked}

-- ---- words of no script

if-none : {A : Type 0} (o : Option A) (P : A → Type 0) → o ≡ None → IfSome o P
if-none o P e = subst (λ (x : Option _). IfSome x P) (sym e) tt

pub no-script : (words : List (List ℕ)) (P : Command → Type 0) → ((r : Request) → ¬ Asks words r) → IfSome (asked words) P
no-script words P never = if-none (asked words) P (none-asked words (λ c asks. never (request.Script c) asks))

pub other-script : (words : List (List ℕ)) (r : Request) (P : Command → Type 0) → is_script r ≡ false → Asks words r → IfSome (asked words) P
other-script words r P other asks = if-none (asked words) P (other-asked words r other asks)

-- ---- words of another form

abbrev pub kind_of : Request → ℕ
kind_of (request.Script c) = 0
kind_of (request.Play from to period periods) = 1
kind_of (request.Capture from to frames) = 2
kind_of (request.Gen n) = 3

pub other-kind : {A : Type 0} (words : List (List ℕ)) (q r : Request) → kind_of q ≢ kind_of r → Asks words q → Asks words r → A
other-kind words q r differ a b = absurd (differ (ap kind_of (one-request words q r a b)))

-- ---- words of the same form

abbrev of_play : (List ℕ → List ℕ → ℕ → ℕ → Type 0) → Request → Type 0
of_play P (request.Play from to period periods) = P from to period periods
of_play P _ = ⊤

pub same-play : (words : List (List ℕ)) (P : List ℕ → List ℕ → ℕ → ℕ → Type 0) (from to : List ℕ) (period periods : ℕ) → Asks words (request.Play from to period periods) → P from to period periods
    → (from' to' : List ℕ) (period' periods' : ℕ) → Asks words (request.Play from' to' period' periods') → P from' to' period' periods'
same-play words P from to period periods a h from' to' period' periods' b =
    subst (of_play P) (one-request words (request.Play from to period periods) (request.Play from' to' period' periods') a b) h

abbrev of_capture : (List ℕ → List ℕ → ℕ → Type 0) → Request → Type 0
of_capture P (request.Capture from to frames) = P from to frames
of_capture P _ = ⊤

pub same-capture : (words : List (List ℕ)) (P : List ℕ → List ℕ → ℕ → Type 0) (from to : List ℕ) (frames : ℕ) → Asks words (request.Capture from to frames) → P from to frames
    → (from' to' : List ℕ) (frames' : ℕ) → Asks words (request.Capture from' to' frames') → P from' to' frames'
same-capture words P from to frames a h from' to' frames' b =
    subst (of_capture P) (one-request words (request.Capture from to frames) (request.Capture from' to' frames') a b) h

abbrev of_gen : (ℕ → Type 0) → Request → Type 0
of_gen P (request.Gen n) = P n
of_gen P _ = ⊤

pub same-gen : (words : List (List ℕ)) (P : ℕ → Type 0) (m : ℕ) → Asks words (request.Gen m) → P m → (n : ℕ) → Asks words (request.Gen n) → P n
same-gen words P m a h n b = subst (of_gen P) (one-request words (request.Gen m) (request.Gen n) a b) h

pub asks-as : (words : List (List ℕ)) (q r : Request) → q ≡ r → Asks words q → Asks words r
asks-as words q r e asks = subst (Asks words) e asks

pub script-asked : (words : List (List ℕ)) (r : Request) (c : Command) → r ≡ request.Script c → Asks words r → asked words ≡ Some c
script-asked words r c e asks = asks-as words r (request.Script c) e asks
