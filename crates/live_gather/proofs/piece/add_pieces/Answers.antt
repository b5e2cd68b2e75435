use Rattle.std.proofs.Common.{◌≡◌, ◌<◌, ℕ, List, [], ◌∷◌, ◌++◌, length, length-append, slice_get, Some, refl, sym, ap, ◌∙◌, arith}
use Rattle.std.proofs.lemmas.List.Edits.{length-remove}
use Rattle.std.proofs.lemmas.Option.{slice_get_within}
use Rattle.card_emul.specs.declared.any_card.AnyCard.{AnyCard}
use Rattle.card_emul.specs.contracts.any_card.AnyCardCard.TheImpl.{ghosts}
use Rattle.pcm_stream.specs.Members.{members_of}
use Rattle.pcm_stream.specs.declared.members.Member.{Member}
use Rattle.floor_rule.specs.declared.rule.Marked.{Marked}
use Rattle.room_parts.specs.Recs.{RecView}
use Rattle.live_gather.specs.Pieces.{with_logs}
use Rattle.live_gather.proofs.ListLemmas.{before_removed, get_front, get_last, no_items}
use Rattle.live_gather.proofs.PieceLemmas.{all_played, same_count, with_last_log}
use Rattle.live_gather.proofs.piece.add_pieces.Goals as goal

pub loop-rec-init : goal.loop-rec-init
loop-rec-init g c =
    let fit = c.requires.fit in
    record {
      size = same_count c.args.recs.items (members_of c.args.members) fit.streams fit.stand fit.recs_are;
      played = all_played g.N.FloorName.cards g.N.FloorName.long_max c.args.recs.items (members_of c.args.members) fit;
      pieces = refl;
      count = refl;
      capacity = refl;
    }

pub new-requires : goal.new-requires
new-requires g c =
    let rest = c.pop.new.self.items in
    let k : c.len.result ≡ length rest = c.len.ensures ∙ c.pop.new.self.ok.0 in
    let at : slice_get c.loop-rec.recs.items c.len.result ≡ Some c.in-Some.rec =
    (λ i. slice_get (c.in-Some.ensures.items i) (k i)) ∙ get_last rest c.in-Some.rec [] in
    record { plays = c.loop-rec.invariant.played c.len.result c.in-Some.rec c.take-member.result at c.take-member.ensures.taken }

pub loop-rec-preserved : goal.loop-rec-preserved
loop-rec-preserved g c =
    let inv = c.loop-rec.invariant in
    let rest = c.pop.new.self.items in
    let rec_ = c.in-Some.rec in
    let ms = members_of c.loop-rec.members in
    let k : c.len.result ≡ length rest = c.len.ensures ∙ c.pop.new.self.ok.0 in
    let lt : c.len.result < length ms = slice_get_within ms c.len.result c.take-member.result c.take-member.ensures.taken in
    let one = ap length c.in-Some.ensures.items in
    let split = length-append rest (rec_ ∷ []) in
    let size = inv.size in
    let others = c.take-member.ensures.others in
    let count = inv.count in
    record {
      size = omega (arith, size, one, split, length-remove ms c.len.result lt, ap length others);
      played = λ i r m at_r at_m.
          let below : i < c.len.result = omega (arith, k, slice_get_within rest i r at_r) in
          inv.played i r m (ap (λ (l : List RecView). slice_get l i) c.in-Some.ensures.items ∙ get_front rest (rec_ ∷ []) i r at_r)
          (before_removed ms c.len.result i m below lt (ap (λ (l : List (Member AnyCard ghosts)). slice_get l i) (sym others) ∙ at_m));
      pieces = ap (λ (l : List (ℕ × List Marked)). with_logs l rest) (c.push_reserved.ensures.items ∙ ap (λ (p : ℕ × List Marked). c.loop-rec.pieces.items ++ p ∷ []) c.new.ensures)
          ∙ sym (with_last_log c.loop-rec.pieces.items rest rec_) ∙ ap (with_logs c.loop-rec.pieces.items) (sym c.in-Some.ensures.items) ∙ inv.pieces;
      count = omega (arith, count, one, split, c.push_reserved.ensures.len);
      capacity = c.push_reserved.ensures.capacity ∙ inv.capacity;
    }

pub returns-clause-pieces : goal.returns-clause-pieces
returns-clause-pieces g c =
    let none = no_items c.loop-rec.recs.items (omega (arith, c.loop-rec.recs.ok.0, c.in_default.ensures.cases)) in
    ap (with_logs c.loop-rec.pieces.items) (sym none) ∙ c.loop-rec.invariant.pieces
