use Rattle.std.proofs.Common.{ap, ◌∙◌, sym, rules, arith, ◌-◌, ◌+◌, ◌≡◌, ◌≤◌, not, take, drop, length, true, List, ℕ, Option, None, position, ◌<◌}
use Rattle.std.proofs.lemmas.List.{drop-drop, drop-take, length-drop, take_all, take_rest}
use Rattle.std.specs.List.{list_all}
use Rattle.ld_words.specs.Input.{HasWord, reading_at}
use Rattle.ld_words.specs.Told.{ShowsFault}
use Rattle.ld_words.specs.Reading.{Between, is_quote, line_feeds}
use Rattle.ld_words.proofs.AtHand.{fit_err, fit_ok, has_on, quoted_end, quoted_found, quoted_kept, quoted_long, quoted_over}
use Rattle.ld_words.proofs.Between.{continued}
use Rattle.ld_words.proofs.Places.{first_found, none_passes}
use Rattle.ld_words.proofs.Telling.{same_on, shows_on}
use Rattle.ld_words.proofs.input.Input.quoted_length.Goals as goal

-- the bytes behind the first quote that were not seen yet
unseen : (hand bytes : List ℕ) (seen : ℕ) → bytes ≡ hand → take (length bytes - (1 + seen)) (drop (1 + seen) bytes) ≡ drop seen (drop 1 hand)
unseen hand bytes seen is = take_rest bytes (1 + seen) ∙ ap (drop (1 + seen)) is ∙ sym (drop-drop seen 1 hand)

pub returns-in-Some-clause-word : goal.returns-in-Some-clause-word
returns-in-Some-clause-word g c =
    let left = g.S.Source.left in
    let now = c.quoted.self in
    let seen = c.quoted.seen in
    let bytes = c.bytes-bytes.result.now in
    let place = 1 + seen + c.in-Some.more in
    let loop = c.quoted.invariant in
    let found = first_found is_quote seen c.in-Some.more (drop 1 now.window) (take (length bytes - (1 + seen)) (drop (1 + seen) bytes)) (unseen now.window bytes seen c.bytes-bytes.ensures.value) (sym c.in-Some.ensures) loop.quoted in
    fit_ok (λ n. HasWord left c.args.self.now now n (line_feeds (take n now.window))) (place + 1) now.line c.fitting.result c.fitting.ensures
    (λ short. has_on left c.args.self.now now now (place + 1) (line_feeds (take (place + 1) now.window)) loop.reading
    (quoted_found left now (seen + c.in-Some.more) place (omega arith) loop.begins found short))

pub returns-in-Some-clause-fault : goal.returns-in-Some-clause-fault
returns-in-Some-clause-fault g c =
    let left = g.S.Source.left in
    let now = c.quoted.self in
    let seen = c.quoted.seen in
    let bytes = c.bytes-bytes.result.now in
    let place = 1 + seen + c.in-Some.more in
    let loop = c.quoted.invariant in
    let found = first_found is_quote seen c.in-Some.more (drop 1 now.window) (take (length bytes - (1 + seen)) (drop (1 + seen) bytes)) (unseen now.window bytes seen c.bytes-bytes.ensures.value) (sym c.in-Some.ensures) loop.quoted in
    fit_err (ShowsFault (reading_at left Between c.args.self.now)) (place + 1) now.line c.fitting.result c.fitting.ensures
    (λ long. same_on (reading_at left Between c.args.self.now) (reading_at left Between now) _ loop.reading
    (quoted_long left now (seen + c.in-Some.more) loop.begins found.front (omega (arith, long)) (omega (arith, long, found.within, length-drop 1 now.window))))

-- no byte behind the first quote is one
all_quoted : (hand bytes : List ℕ) (seen : ℕ) (result : Option ℕ) → bytes ≡ hand → result ≡ position is_quote (take (length bytes - (1 + seen)) (drop (1 + seen) bytes)) → result ≡ None
    → list_all (λ b. not (is_quote b)) (take seen (drop 1 hand)) ≡ true → list_all (λ b. not (is_quote b)) (drop 1 hand) ≡ true
all_quoted hand bytes seen result is found none front =
    none_passes is_quote seen (drop 1 hand) (take (length bytes - (1 + seen)) (drop (1 + seen) bytes)) (unseen hand bytes seen is) (sym found ∙ none) front

pub returns-then-held-gt-WORD_LIMIT-clause-fault : goal.returns-then-held-gt-WORD_LIMIT-clause-fault
returns-then-held-gt-WORD_LIMIT-clause-fault g c =
    let left = g.S.Source.left in
    let now = c.quoted.self in
    let loop = c.quoted.invariant in
    let all = all_quoted now.window c.bytes-bytes.result.now c.quoted.seen c.first_quote.result c.bytes-bytes.ensures.value c.first_quote.ensures c.in_default.is loop.quoted in
    let held : 65535 < length now.window = omega (arith, c.if-held-gt-WORD_LIMIT.true, ap length c.bytes-bytes.ensures.value) in
    let front : list_all (λ b. not (is_quote b)) (take (length now.window) (drop 1 now.window)) ≡ true = rw (take_all (length now.window) (drop 1 now.window) (omega (arith, length-drop 1 now.window))) all in
    same_on (reading_at left Between c.args.self.now) (reading_at left Between now) _ loop.reading
    (quoted_long left now (length now.window) loop.begins front (omega (arith, held)) held)

-- the bytes behind the first quote, where more came to hand
kept_behind : (hand more bytes : List ℕ) → bytes ≡ hand → 1 ≤ length hand → take (length hand) more ≡ hand → take (length bytes - 1) (drop 1 more) ≡ drop 1 hand
kept_behind hand more bytes is some kept =
    let n : 1 + (length bytes - 1) ≡ length hand = omega (arith, ap length is) in
    sym (drop-take 1 (length bytes - 1) more) ∙ ap (λ (k : ℕ). drop 1 (take k more)) n ∙ ap (drop 1) kept

pub quoted-preserved : goal.quoted-preserved
quoted-preserved g c =
    let left = g.S.Source.left in
    let now = c.quoted.self in
    let new = c.fill.new.self in
    let loop = c.quoted.invariant in
    let bytes = c.bytes-bytes.ensures.value in
    let grew = rw c.in-More.is at c.in_ok-fill.ensures.fills in
    let more = continued left now new c.fill.ensures.stays grew in
    record {
      begins = quoted_kept now.window new.window grew.kept loop.begins;
      within = omega (arith, grew.grown, ap length bytes, loop.within);
      quoted =
          rw (kept_behind now.window new.window c.bytes-bytes.result.now bytes (omega (arith, loop.within)) grew.kept)
          (all_quoted now.window c.bytes-bytes.result.now c.quoted.seen c.first_quote.result bytes c.first_quote.ensures c.in_default.is loop.quoted);
      reading = same_on (reading_at left Between c.args.self.now) (reading_at left Between now) (reading_at left Between new) loop.reading (more.reading Between);
      stays = search rules;
      ready = search rules;
      later = search rules;
      rest = search rules;
    }

pub returns-in-End-clause-fault : goal.returns-in-End-clause-fault
returns-in-End-clause-fault g c =
    let left = g.S.Source.left in
    let now = c.quoted.self in
    let new = c.fill.new.self in
    let loop = c.quoted.invariant in
    let bytes = c.bytes-bytes.ensures.value in
    let all = all_quoted now.window c.bytes-bytes.result.now c.quoted.seen c.first_quote.result bytes c.first_quote.ensures c.in_default.is loop.quoted in
    let last = rw c.in-End.is at c.in_ok-fill.ensures.fills in
    rw c.fill.ensures.stays.line
    (same_on (reading_at left Between c.args.self.now) (reading_at left Between now) _ loop.reading
    (quoted_end left now new loop.begins all (omega (arith, c.if-held-gt-WORD_LIMIT.false, ap length bytes)) last))

pub returns-in-Past-clause-fault : goal.returns-in-Past-clause-fault
returns-in-Past-clause-fault g c =
    let left = g.S.Source.left in
    let now = c.quoted.self in
    let new = c.fill.new.self in
    let loop = c.quoted.invariant in
    let bytes = c.bytes-bytes.ensures.value in
    let all = all_quoted now.window c.bytes-bytes.result.now c.quoted.seen c.first_quote.result bytes c.first_quote.ensures c.in_default.is loop.quoted in
    let past = rw c.in-Past.is at c.in_ok-fill.ensures.fills in
    rw c.past_quoted.ensures
    (shows_on (reading_at left Between c.args.self.now) (reading_at left Between now) _ loop.reading
    (quoted_over left now new c.in-Past.field-0 loop.begins all (omega (arith, c.if-held-gt-WORD_LIMIT.false, ap length bytes)) c.fill.ensures.stays past))
