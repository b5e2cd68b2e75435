use Rattle.std.proofs.Common.{◌≡◌, ◌*◌, ◌/◌, ◌<◌, ◌≤◌, Some, sym, ◌∙◌, rules, arith}
use Rattle.std.proofs.lemmas.Bool.{lt-ltb, le-ltb, eq-eqb, ne_eqb, cond-true, cond-false}
use Rattle.wav_file.specs.Chunks.{place_of}
use Rattle.wav_file.specs.Faults.{bits_at, valid_at}
use Rattle.wav_file.specs.Recordings.{number_at, format_of}
use Rattle.wav_file.proofs.Pieces.{number_read}
use Rattle.wav_file.proofs.Formats.{fields_are}
use Rattle.wav_file.proofs.layout.fields_of.Goals as goal

pub returns-then-bits-valid-clause-value : goal.returns-then-bits-valid-clause-value
returns-then-bits-valid-clause-value c =
    let p = place_of c.args.chunk in
    let channels : number_at 2 10 p.bytes ≡ c.from-channels.result = number_read 2 10 _ p.bytes c.read_u16.ensures ∙ (search rules) in
    let rate : number_at 4 12 p.bytes ≡ c.from-rate.result = number_read 4 12 _ p.bytes c.read_u32.ensures ∙ (search rules) in
    let bits : bits_at p.bytes ≡ c.read_u16-bits.result = number_read 2 22 _ p.bytes c.read_u16-bits.ensures in
    let valid : valid_at p.bytes ≡ c.valid_bits-valid.result = sym c.valid_bits-valid.ensures in
    let some : c.from-rate.result ≡ 0 → ⊥ = λ z. absurd (search (rules, z)) in
    let format : format_of c.read_u16-bits.result c.valid_bits-valid.result ≡ Some c.in-Some.format = search rules in
    let fields = fields_are p c.from-channels.result c.from-rate.result c.read_u16-bits.result c.valid_bits-valid.result c.in-Some.format channels rate bits valid (omega arith) (omega arith) some format in
    let more : c.read_u16-bits.result < c.valid_bits-valid.result = search rules in
    sym (fields ∙ cond-true _ _ _ (lt-ltb _ _ more))

pub returns-then-align-channels-clause-value : goal.returns-then-align-channels-clause-value
returns-then-align-channels-clause-value c =
    let p = place_of c.args.chunk in
    let channels : number_at 2 10 p.bytes ≡ c.from-channels.result = number_read 2 10 _ p.bytes c.read_u16.ensures ∙ (search rules) in
    let rate : number_at 4 12 p.bytes ≡ c.from-rate.result = number_read 4 12 _ p.bytes c.read_u32.ensures ∙ (search rules) in
    let bits : bits_at p.bytes ≡ c.read_u16-bits.result = number_read 2 22 _ p.bytes c.read_u16-bits.ensures in
    let valid : valid_at p.bytes ≡ c.valid_bits-valid.result = sym c.valid_bits-valid.ensures in
    let some : c.from-rate.result ≡ 0 → ⊥ = λ z. absurd (search (rules, z)) in
    let format : format_of c.read_u16-bits.result c.valid_bits-valid.result ≡ Some c.in-Some.format = search rules in
    let fields = fields_are p c.from-channels.result c.from-rate.result c.read_u16-bits.result c.valid_bits-valid.result c.in-Some.format channels rate bits valid (omega arith) (omega arith) some format in
    let fits : c.valid_bits-valid.result ≤ c.read_u16-bits.result = search rules in
    let read : number_at 2 20 p.bytes ≡ c.from-align.result = number_read 2 20 _ p.bytes c.read_u16-2.ensures ∙ (search rules) in
    let other : number_at 2 20 p.bytes ≡ c.from-channels.result * c.read_u16-bits.result / 8 → ⊥ = λ e. let same : c.from-align.result ≡ c.from-channels.result * c.read_u16-bits.result / 8 = sym read ∙ e in absurd (search (rules, same)) in
    sym (fields ∙ cond-false _ _ _ (le-ltb _ _ fits) ∙ cond-false _ _ _ (ne_eqb _ _ other))

pub returns-clause-value : goal.returns-clause-value
returns-clause-value c =
    let p = place_of c.args.chunk in
    let channels : number_at 2 10 p.bytes ≡ c.from-channels.result = number_read 2 10 _ p.bytes c.read_u16.ensures ∙ (search rules) in
    let rate : number_at 4 12 p.bytes ≡ c.from-rate.result = number_read 4 12 _ p.bytes c.read_u32.ensures ∙ (search rules) in
    let bits : bits_at p.bytes ≡ c.read_u16-bits.result = number_read 2 22 _ p.bytes c.read_u16-bits.ensures in
    let valid : valid_at p.bytes ≡ c.valid_bits-valid.result = sym c.valid_bits-valid.ensures in
    let some : c.from-rate.result ≡ 0 → ⊥ = λ z. absurd (search (rules, z)) in
    let format : format_of c.read_u16-bits.result c.valid_bits-valid.result ≡ Some c.in-Some.format = search rules in
    let fields = fields_are p c.from-channels.result c.from-rate.result c.read_u16-bits.result c.valid_bits-valid.result c.in-Some.format channels rate bits valid (omega arith) (omega arith) some format in
    let fits : c.valid_bits-valid.result ≤ c.read_u16-bits.result = search rules in
    let same : c.from-align.result ≡ c.from-channels.result * c.read_u16-bits.result / 8 = search rules in
    let align : number_at 2 20 p.bytes ≡ c.from-channels.result * c.read_u16-bits.result / 8 = number_read 2 20 _ p.bytes c.read_u16-2.ensures ∙ (search rules) ∙ same in
    sym (fields ∙ cond-false _ _ _ (le-ltb _ _ fits) ∙ cond-true _ _ _ (eq-eqb _ _ align))
