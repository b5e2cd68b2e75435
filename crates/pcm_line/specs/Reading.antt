-- Reading from left to right.
use Rattle.std.specs.Prelude.{◌≡◌, ℕ, ◌+◌, ◌-◌, ◌*◌, ◌&&◌, ◌||◌, List, [], ◌∷◌, length, get_or, Result, Ok, Err, nat_lt, nat_le, ◌==◌, not, Bool, if◌then◌else◌}
use Rattle.std.specs.declared.option.Option.{Option}
use Rattle.std.specs.declared.option.Option.TheVariants.{Some, None}
use Rattle.std.specs.Option.{option_map}
use Rattle.std.specs.Str.{all_ascii_digits}
use Rattle.pcm_base.specs.Name.{is_name, option_if}
use Rattle.pcm_base.specs.declared.call.Call.TheVariants.{OpenSub, CloseSub, HwFree, Prepare, Start, DropNow, PausePush, PauseRelease, Suspend, Resume, Xrun, Rewind, Forward, Hwsync, Delay, SyncPtr, Status, PageNow, Poll, Map, Unmap, Unlink}
use Rattle.pcm_base.specs.declared.call.Layout.TheVariants.{Interleaved, Planar}
use Rattle.pcm_line.specs.declared.line.Line.{Line}
use Rattle.pcm_line.specs.declared.error.LineError.{LineError}
use Rattle.pcm_line.specs.declared.error.LineError.TheVariants as faults
use Rattle.pcm_line.specs.declared.keyword.Keyword.{Keyword}
use Rattle.pcm_line.specs.declared.keyword.Keyword.TheVariants as keyword
use Rattle.pcm_line.specs.Kinds.{Kind, OfNumber, OfClient, OfSub, OfMode, OfDir, OfModel, OfAccess, OfFormat, OfHex, OfName, Value}
use Rattle.pcm_line.specs.Pieces.{Place, pieces_of, place_at}
use Rattle.pcm_line.specs.Tables.{entry_for, modes, dirs, models, accesses, formats, keyword_for}
use Rattle.pcm_line.specs.Forms.{Values, Form, plain_form, counted_form, write_form, read_form, store_form, load_form, drain_form, link_form, go_form, hw_form, sw_form, move_form, irq_form, unplug_form, fail_form, give_form, long_form, card_form, feed_form, save_form, space_form, beat_form, threads_form, join_form, version_form, carry_form, wire_form}
use Rattle.pcm_line.specs.Grammar.{misfit}

infixl 10 ◌>>=◌
abbrev pub ◌>>=◌ : {A B : Type 0} → Result A LineError → (A → Result B LineError) → Result B LineError
(Ok x) >>= f = f x
(Err e) >>= f = Err e

-- what a function gave is what reading gives, unless memory ran out
abbrev pub Fails : {Y : Type 0} → LineError → Result Y LineError → Type 0
Fails faults.Memory read = Unit {0}
Fails (faults.Word at) read = read ≡ Err (faults.Word at)
Fails (faults.Number at) read = read ≡ Err (faults.Number at)
Fails faults.Short read = read ≡ Err faults.Short
Fails (faults.Long at) read = read ≡ Err (faults.Long at)

abbrev pub Gives : {X Y : Type 0} → (X → Y) → Result X LineError → Result Y LineError → Type 0
Gives view (Ok x) read = read ≡ Ok (view x)
Gives view (Err e) read = Fails e read

-- ---- single pieces

abbrev pub digits_value_on : ℕ → List ℕ → ℕ
digits_value_on n [] = n
digits_value_on n (c ∷ cs) = digits_value_on (10 * n + (c - 48)) cs

-- at most 19 digits, the first not 0 where there are several
abbrev pub is_numeral : List ℕ → Bool
is_numeral piece = nat_le 1 (length piece) && (nat_le (length piece) 19 && (all_ascii_digits piece && (not (get_or piece 0 0 == 48) || length piece == 1)))

abbrev pub number_of : List ℕ → Option ℕ
number_of piece = if is_numeral piece && nat_lt (digits_value_on 0 piece) 9223372036854775808 then Some (digits_value_on 0 piece) else None

abbrev pub below_sixteen : Option ℕ → Option ℕ
below_sixteen None = None
below_sixteen (Some n) = option_if (nat_lt n 16) n

-- a letter, and a number below 16
abbrev pub numbered : ℕ → List ℕ → Option ℕ
numbered letter [] = None
numbered letter (b ∷ digits) = if b == letter then below_sixteen (number_of digits) else None

abbrev pub hex_value : ℕ → Option ℕ
hex_value b = if nat_le 48 b && nat_le b 57 then Some (b - 48) else (if nat_le 97 b && nat_le b 102 then Some (b - 87) else None)

abbrev pub hex_pair : Option ℕ → Option ℕ → Option (List ℕ) → Option (List ℕ)
hex_pair (Some high) (Some low) (Some rest) = Some ((16 * high + low) ∷ rest)
hex_pair _ _ _ = None

abbrev pub hex_of : List ℕ → Option (List ℕ)
hex_of [] = Some []
hex_of (a ∷ []) = None
hex_of (a ∷ b ∷ rest) = hex_pair (hex_value a) (hex_value b) (hex_of rest)

abbrev pub hex_bytes : List ℕ → Option (List ℕ)
hex_bytes [] = None
hex_bytes (b ∷ rest) = if b == 45 && length rest == 0 then Some [] else hex_of (b ∷ rest)

abbrev pub value_of : (k : Kind) → List ℕ → Option (Value k)
value_of OfNumber piece = number_of piece
value_of OfClient piece = option_map (λ n. record { 0 = n }) (numbered 99 piece)
value_of OfSub piece = option_map (λ n. record { 0 = n }) (numbered 115 piece)
value_of OfMode piece = entry_for piece modes
value_of OfDir piece = entry_for piece dirs
value_of OfModel piece = entry_for piece models
value_of OfAccess piece = entry_for piece accesses
value_of OfFormat piece = entry_for piece formats
value_of OfHex piece = hex_bytes piece
value_of OfName piece = option_if (is_name piece) piece

-- ---- a line

abbrev pub next_of : ℕ → List (List ℕ) → Result (List ℕ × Place) LineError
next_of at [] = Err faults.Short
next_of at (piece ∷ others) = Ok (piece, record { at = at + length piece + 1; pieces = others })

abbrev pub next_piece : Place → Result (List ℕ × Place) LineError
next_piece place = next_of place.at place.pieces

abbrev pub or_misfit : {A : Type 0} → Kind → ℕ → Place → Option A → Result (A × Place) LineError
or_misfit k at after None = Err (misfit k at)
or_misfit k at after (Some v) = Ok (v, after)

abbrev pub read_value : (k : Kind) → Place → Result (Value k × Place) LineError
read_value k place = next_piece place >>= λ x. or_misfit k place.at x.1 (value_of k x.0)

abbrev pub end_of : ℕ → List (List ℕ) → Result (Unit {0}) LineError
end_of at [] = Ok tt
end_of at (piece ∷ others) = Err (faults.Long at)

abbrev pub read_end : Place → Result (Unit {0}) LineError
read_end place = end_of place.at place.pieces

abbrev pub read_values : (kinds : List Kind) → Place → Result (Values kinds) LineError
read_values [] place = read_end place
read_values (k ∷ kinds) place = read_value k place >>= λ x. read_values kinds x.1 >>= λ others. Ok (x.0, others)

abbrev pub read_by : Form → Place → Result Line LineError
read_by form place = read_values form.kinds place >>= λ v. Ok (form.means v)

abbrev pub read_after : Keyword → Place → Result Line LineError
read_after keyword.Writei place = read_by (write_form Interleaved) place
read_after keyword.Move place = read_by move_form place
read_after keyword.Irq place = read_by irq_form place
read_after keyword.Status place = read_by (plain_form Status) place
read_after keyword.Readi place = read_by (read_form Interleaved) place
read_after keyword.Writen place = read_by (write_form Planar) place
read_after keyword.Readn place = read_by (read_form Planar) place
read_after keyword.Store place = read_by store_form place
read_after keyword.Load place = read_by load_form place
read_after keyword.Rewind place = read_by (counted_form (λ n. Rewind n)) place
read_after keyword.Forward place = read_by (counted_form (λ n. Forward n)) place
read_after keyword.Sync place = read_by (counted_form (λ n. SyncPtr n)) place
read_after keyword.Hwsync place = read_by (plain_form Hwsync) place
read_after keyword.Delay place = read_by (plain_form Delay) place
read_after keyword.Page place = read_by (plain_form PageNow) place
read_after keyword.Poll place = read_by (plain_form Poll) place
read_after keyword.Prepare place = read_by (plain_form Prepare) place
read_after keyword.Start place = read_by (plain_form Start) place
read_after keyword.Drop place = read_by (plain_form DropNow) place
read_after keyword.Drain place = read_by drain_form place
read_after keyword.Xrun place = read_by (plain_form Xrun) place
read_after keyword.Pause place = read_by (plain_form PausePush) place
read_after keyword.Release place = read_by (plain_form PauseRelease) place
read_after keyword.Suspend place = read_by (plain_form Suspend) place
read_after keyword.Resume place = read_by (plain_form Resume) place
read_after keyword.Go place = read_by go_form place
read_after keyword.Link place = read_by link_form place
read_after keyword.Unlink place = read_by (plain_form Unlink) place
read_after keyword.Mmap place = read_by (plain_form Map) place
read_after keyword.Munmap place = read_by (plain_form Unmap) place
read_after keyword.Open place = read_by (plain_form OpenSub) place
read_after keyword.Close place = read_by (plain_form CloseSub) place
read_after keyword.Hw place = read_by hw_form place
read_after keyword.Hwfree place = read_by (plain_form HwFree) place
read_after keyword.Sw place = read_by sw_form place
read_after keyword.Long place = read_by long_form place
read_after keyword.Card place = read_by card_form place
read_after keyword.Fail place = read_by fail_form place
read_after keyword.Unplug place = read_by unplug_form place
read_after keyword.Give place = read_by give_form place
read_after keyword.Feed place = read_by feed_form place
read_after keyword.Save place = read_by save_form place
read_after keyword.Space place = read_by space_form place
read_after keyword.Beat place = read_by beat_form place
read_after keyword.Threads place = read_by threads_form place
read_after keyword.Join place = read_by join_form place
read_after keyword.Version place = read_by version_form place
read_after keyword.Carry place = read_by carry_form place
read_after keyword.Wire place = read_by wire_form place

abbrev pub read_others : Option Keyword → Place → Result Line LineError
read_others None place = Err (faults.Word 0)
read_others (Some k) place = read_after k place

abbrev pub read_pieces : List (List ℕ) → Result Line LineError
read_pieces [] = Err (faults.Word 0)
read_pieces (first ∷ others) = read_others (keyword_for first) (record { at = length first + 1; pieces = others })

abbrev pub read_bytes : List ℕ → Result Line LineError
read_bytes bytes = read_pieces (pieces_of bytes)

-- the result is what reading by this form gives
abbrev pub Reads : Form → ℕ → List ℕ → Result Line LineError → Type 0
Reads form at rest result = Gives (λ line. line) result (read_by form (place_at at rest))
