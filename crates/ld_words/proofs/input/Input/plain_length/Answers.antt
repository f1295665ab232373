use Rattle.std.proofs.Common.{ap, ◌∙◌, sym, rules, arith, ◌-◌, ◌+◌, ◌≡◌, not, take, drop, length, true, List, ℕ, Option, None, position}
use Rattle.std.proofs.lemmas.List.{take_all, take_rest}
use Rattle.std.specs.List.{list_all}
use Rattle.ld_words.specs.Input.{HasWord, reading_at}
use Rattle.ld_words.specs.Told.{ShowsFault}
use Rattle.ld_words.specs.Reading.{Between, is_blank}
use Rattle.ld_words.proofs.AtHand.{fit_err, fit_ok, has_on, plain_end, plain_found, plain_kept, plain_long, plain_over}
use Rattle.ld_words.proofs.Between.{continued}
use Rattle.ld_words.proofs.Places.{first_found, none_passes}
use Rattle.ld_words.proofs.Telling.{same_on, shows_on}
use Rattle.ld_words.proofs.input.Input.plain_length.Goals as goal

-- the bytes at hand that were not seen yet
unseen : (hand bytes : List ℕ) (seen : ℕ) → bytes ≡ hand → take (length bytes - seen) (drop seen bytes) ≡ drop seen hand
unseen hand bytes seen is = take_rest bytes seen ∙ ap (drop seen) is

pub returns-in-Some-clause-word : goal.returns-in-Some-clause-word
returns-in-Some-clause-word g c =
    let left = g.S.Source.left in
    let now = c.plain.self in
    let seen = c.plain.seen in
    let bytes = c.bytes-bytes.result.now in
    let loop = c.plain.invariant in
    let found = first_found is_blank seen c.in-Some.more now.window (take (length bytes - seen) (drop seen bytes)) (unseen now.window bytes seen c.bytes-bytes.ensures.value) (sym c.in-Some.ensures) loop.plain in
    fit_ok (λ n. HasWord left c.args.self.now now n 0) (seen + c.in-Some.more) now.line c.fitting.result c.fitting.ensures
    (λ short. has_on left c.args.self.now now now (seen + c.in-Some.more) 0 loop.reading (plain_found left now (seen + c.in-Some.more) loop.begins found short))

pub returns-in-Some-clause-fault : goal.returns-in-Some-clause-fault
returns-in-Some-clause-fault g c =
    let left = g.S.Source.left in
    let now = c.plain.self in
    let seen = c.plain.seen in
    let bytes = c.bytes-bytes.result.now in
    let loop = c.plain.invariant in
    let found = first_found is_blank seen c.in-Some.more now.window (take (length bytes - seen) (drop seen bytes)) (unseen now.window bytes seen c.bytes-bytes.ensures.value) (sym c.in-Some.ensures) loop.plain in
    fit_err (ShowsFault (reading_at left Between c.args.self.now)) (seen + c.in-Some.more) now.line c.fitting.result c.fitting.ensures
    (λ long. same_on (reading_at left Between c.args.self.now) (reading_at left Between now) _ loop.reading (plain_long left now (seen + c.in-Some.more) loop.begins found.front (omega (arith, found.within)) long))

-- no byte at hand is a blank
all_plain : (hand bytes : List ℕ) (seen : ℕ) (result : Option ℕ) → bytes ≡ hand → result ≡ position is_blank (take (length bytes - seen) (drop seen bytes)) → result ≡ None
    → list_all (λ b. not (is_blank b)) (take seen hand) ≡ true → list_all (λ b. not (is_blank b)) hand ≡ true
all_plain hand bytes seen result is found none front =
    none_passes is_blank seen hand (take (length bytes - seen) (drop seen bytes)) (unseen hand bytes seen is) (sym found ∙ none) front

pub returns-then-held-gt-WORD_LIMIT-clause-fault : goal.returns-then-held-gt-WORD_LIMIT-clause-fault
returns-then-held-gt-WORD_LIMIT-clause-fault g c =
    let left = g.S.Source.left in
    let now = c.plain.self in
    let loop = c.plain.invariant in
    let all = all_plain now.window c.bytes-bytes.result.now c.plain.seen c.first_blank.result c.bytes-bytes.ensures.value c.first_blank.ensures c.in_default.is loop.plain in
    let front : list_all (λ b. not (is_blank b)) (take (length now.window) now.window) ≡ true = rw (take_all (length now.window) now.window (omega arith)) all in
    same_on (reading_at left Between c.args.self.now) (reading_at left Between now) _ loop.reading
    (plain_long left now (length now.window) loop.begins front (omega arith) (omega (arith, c.if-held-gt-WORD_LIMIT.true, ap length c.bytes-bytes.ensures.value)))

pub plain-preserved : goal.plain-preserved
plain-preserved g c =
    let left = g.S.Source.left in
    let now = c.plain.self in
    let new = c.fill.new.self in
    let loop = c.plain.invariant in
    let bytes = c.bytes-bytes.ensures.value in
    let grew = rw c.in-More.is at c.in_ok-fill.ensures.fills in
    let more = continued left now new c.fill.ensures.stays grew in
    record {
      begins = plain_kept now.window new.window grew.kept loop.begins;
      within = omega (arith, grew.grown, ap length bytes);
      plain =
          rw (ap length bytes, grew.kept)
          (all_plain now.window c.bytes-bytes.result.now c.plain.seen c.first_blank.result bytes c.first_blank.ensures c.in_default.is loop.plain);
      reading = same_on (reading_at left Between c.args.self.now) (reading_at left Between now) (reading_at left Between new) loop.reading (more.reading Between);
      stays = search rules;
      ready = search rules;
      later = search rules;
      rest = search rules;
    }

pub returns-in-End-clause-word : goal.returns-in-End-clause-word
returns-in-End-clause-word g c =
    let left = g.S.Source.left in
    let now = c.plain.self in
    let new = c.fill.new.self in
    let loop = c.plain.invariant in
    let bytes = c.bytes-bytes.ensures.value in
    let all = all_plain now.window c.bytes-bytes.result.now c.plain.seen c.first_blank.result bytes c.first_blank.ensures c.in_default.is loop.plain in
    let last = rw c.in-End.is at c.in_ok-fill.ensures.fills in
    rw (ap length bytes)
    (has_on left c.args.self.now now new (length now.window) 0 loop.reading
    (plain_end left now new loop.begins all (omega (arith, c.if-held-gt-WORD_LIMIT.false, ap length bytes)) c.fill.ensures.stays last))

pub returns-in-Past-clause-fault : goal.returns-in-Past-clause-fault
returns-in-Past-clause-fault g c =
    let left = g.S.Source.left in
    let now = c.plain.self in
    let new = c.fill.new.self in
    let loop = c.plain.invariant in
    let bytes = c.bytes-bytes.ensures.value in
    let all = all_plain now.window c.bytes-bytes.result.now c.plain.seen c.first_blank.result bytes c.first_blank.ensures c.in_default.is loop.plain in
    let past = rw c.in-Past.is at c.in_ok-fill.ensures.fills in
    rw c.past_plain.ensures
    (shows_on (reading_at left Between c.args.self.now) (reading_at left Between now) _ loop.reading
    (plain_over left now new c.in-Past.byte loop.begins all (omega (arith, c.if-held-gt-WORD_LIMIT.false, ap length bytes)) c.fill.ensures.stays past))
