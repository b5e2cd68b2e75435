use Rattle.std.proofs.Common.{◌≡◌, ℕ, length, refl, sym, ap, ◌∙◌, subst, arith}
use Rattle.floor_rule.specs.declared.rule.PassKnows.{PassKnows}
use Rattle.floor_rule.specs.Marks.{Shown}
use Rattle.floor_rule.specs.Steps.{IsPage, with_page}
use Rattle.floor_rule.specs.declared.rule.Reading.{Reading}
use Rattle.room_parts.specs.Passes.{PassStands}
use Rattle.room_parts.proofs.Calls.{stands_told}
use Rattle.room_parts.proofs.Seen.{remembers_page}
use Rattle.room_parts.proofs.pass.Pass.page.Goals as goal

pub returns-clause-page : goal.returns-clause-page
returns-clause-page g c =
    let told = c.read_page.ensures in
    let k : ℕ = told.0 in
    let shown : Shown = told.1 in
    let word : ℕ = c.read_page.result in
    let page = told.2 in
    let parts = c.unpack-page.ensures.parts k shown (omega (arith, page.short)) page.low page.word_is in (
      word,
      subst (λ (z : PassKnows × ℕ × Shown). IsPage c.args.sub.0 word z.0 z.1 z.2) (λ i. ((c.self.view_is i).knows, sym parts.0 i, record { state = sym parts.1 i; hw = sym parts.2 i })) page,
      ap (λ s. s.knows) told.3 ∙ (λ i. with_page ((c.self.view_is i).knows) c.args.sub.0 (sym parts.0 i) word),
    )

pub invariant_of-self : goal.invariant_of-self
invariant_of-self g c =
    let told = c.read_page.ensures in
    let k : ℕ = told.0 in
    let shown : Shown = told.1 in
    let word : ℕ = c.read_page.result in
    let p : PassKnows = c.self.inside.seat.knows in
    let now : PassKnows = c.read_page.new.self.knows in
    let same : now ≡ with_page p c.args.sub.0 k word = ap (λ s. s.knows) told.3 in
    let parts = c.unpack-page.ensures.parts k shown (omega (arith, told.2.short)) told.2.low told.2.word_is in
    let r : Reading = record { sub = c.args.sub.0; count = k; word = word } in
    let table = remembers_page c.self.inside.seen c.raise.new.seen p now r c.args.sub.0 c.unpack-page.result.count refl parts.0 c.self.invariant.2 c.raise.ensures.within c.raise.ensures.raised (ap (λ q. q.reads) same) (ap (λ q. q.receipts) same) c.self.invariant.3 in (
      ap (λ s. s.table) told.3 ∙ c.self.invariant.0,
      subst (λ (q : PassKnows). PassStands (length g.N.FloorName.cards) c.self.inside.caller c.self.inside.busy q) (sym same) (stands_told _ _ _ p (with_page p c.args.sub.0 k word) refl refl refl (λ j i e at. at) c.self.invariant.1),
      table.0,
      table.1,
    )
