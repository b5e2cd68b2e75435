use Rattle.std.proofs.Common.{◌≡◌, ◌++◌, refl, sym, ap, ◌∙◌, subst}
use Rattle.floor_rule.specs.declared.rule.Lists.{Lists}
use Rattle.floor_rule.specs.declared.rule.PassKnows.{PassKnows}
use Rattle.floor_rule.specs.declared.rule.RecKnows.{RecKnows}
use Rattle.floor_rule.specs.Steps.{HoldsMore, told_by_rec}
use Rattle.floor_rule.specs.Views.{both_lists}
use Rattle.room_parts.proofs.Backing.{holds_told}
use Rattle.room_parts.proofs.Calls.{full_after}
use Rattle.room_parts.proofs.calling.full_page.Goals as goal

pub returns-clause-count : goal.returns-clause-count
returns-clause-count g c =
    let r : RecKnows = c.args.rec.now.knows in
    let p : PassKnows = c.args.pass.now.knows in
    let news : RecKnows = c.tell-news.new.self.knows in
    let told : news ≡ r = ap (λ v. v.knows) c.tell-news.ensures.same in
    let page = c.page-page.ensures.page in
    let heard : c.hear.new.self.knows ≡ record p { held = both_lists (told_by_rec r) p.held } = rw (c.hear.ensures, c.tell-news.ensures.note) refl in
    let reads : c.hear-2.new.self.knows.held.reads ≡ (c.page-page.new.self.knows.reads ++ c.page-page.new.self.knows.held.reads) ++ r.held.reads = rw (c.hear-2.ensures, c.tell-copy.ensures.note, c.tell-news.ensures.same) refl in
    let full = full_after r p c.hear.new.self.knows c.page-page.new.self.knows c.sub.result.0 page.0 c.page-page.result.count _ c.hear-2.new.self.knows.sub c.hear-2.new.self.knows.log c.hear-2.new.self.knows.held.reads r.held.reads
    (c.sub.ensures.sub ∙ ap (λ v. v.sub) told) heard page.1 page.2 (rw (c.hear-2.ensures, c.tell-news.ensures.same) refl) (rw (c.hear-2.ensures, c.tell-news.ensures.same) refl) reads c.confirm.ensures.confirmed.reads in
    full.0

pub returns-clause-read : goal.returns-clause-read
returns-clause-read g c =
    let r : RecKnows = c.args.rec.now.knows in
    let p : PassKnows = c.args.pass.now.knows in
    let news : RecKnows = c.tell-news.new.self.knows in
    let told : news ≡ r = ap (λ v. v.knows) c.tell-news.ensures.same in
    let page = c.page-page.ensures.page in
    let heard : c.hear.new.self.knows ≡ record p { held = both_lists (told_by_rec r) p.held } = rw (c.hear.ensures, c.tell-news.ensures.note) refl in
    let reads : c.hear-2.new.self.knows.held.reads ≡ (c.page-page.new.self.knows.reads ++ c.page-page.new.self.knows.held.reads) ++ r.held.reads = rw (c.hear-2.ensures, c.tell-copy.ensures.note, c.tell-news.ensures.same) refl in
    let full = full_after r p c.hear.new.self.knows c.page-page.new.self.knows c.sub.result.0 page.0 c.page-page.result.count _ c.hear-2.new.self.knows.sub c.hear-2.new.self.knows.log c.hear-2.new.self.knows.held.reads r.held.reads
    (c.sub.ensures.sub ∙ ap (λ v. v.sub) told) heard page.1 page.2 (rw (c.hear-2.ensures, c.tell-news.ensures.same) refl) (rw (c.hear-2.ensures, c.tell-news.ensures.same) refl) reads c.confirm.ensures.confirmed.reads in
    ap (λ v. v.knows.reads) c.tell-copy.ensures.same ∙ full.1

pub returns-clause-held : goal.returns-clause-held
returns-clause-held g c =
    let rec_held : c.confirm.new.self.knows.held ≡ both_lists c.tell-copy.result.lists c.args.rec.now.knows.held = rw (c.confirm.ensures.same, c.hear-2.ensures, c.tell-news.ensures.same) refl in
    let pass_held : c.tell-copy.new.self.knows.held ≡ both_lists c.tell-news.result.lists c.args.pass.now.knows.held = rw (c.tell-copy.ensures.same, c.page-page.ensures.page.2, c.hear.ensures) refl in (
      subst (λ (l : Lists). HoldsMore c.args.rec.now.knows.held l) (sym rec_held) (holds_told c.tell-copy.result.lists c.args.rec.now.knows.held),
      subst (λ (l : Lists). HoldsMore c.args.pass.now.knows.held l) (sym pass_held) (holds_told c.tell-news.result.lists c.args.pass.now.knows.held),
    )
