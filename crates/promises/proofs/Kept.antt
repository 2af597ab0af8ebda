-- Every promise is kept.
use Rattle.promises.specs.Promises.{Promises}
use Rattle.promises.proofs.Truth.{look-tells-the-truth, reads-count-the-path, next-tells-the-truth, nothing-before-the-beginning}
use Rattle.promises.proofs.Alike.{cards-answer-alike}
use Rattle.promises.proofs.Overwritten.{nothing-is-overwritten, season-overwrites-nothing}
use Rattle.promises.proofs.Taken.{post-is-taken, strike-is-taken, season-is-taken}
use Rattle.promises.proofs.Settled.{calls-are-settled, panel-is-settled, refused-means-unchanged, reads-change-nothing, season-is-settled}
use Rattle.promises.proofs.Scrolled.{records-are-settled, scroll-is-settled, scroll-says-again}
use Rattle.promises.proofs.Stated.{state-tells-the-truth, state-tells-the-next, state-is-settled}
use Rattle.promises.proofs.Batches.{batch-is-one-by-one, batch-cut-in-two, refused-does-not-stop, batch-is-settled}
use Rattle.promises.proofs.Copied.{seen-through, copies-of-copies, copies-are-refused-alike, twice-is-once}
use Rattle.promises.proofs.Journals.{journal-holds-the-accepted, journal-tells-the-truth, journal-takes-until-full, six-means-full, journal-overwrites-nothing, journal-is-settled, journal-reads-nothing}
use Rattle.promises.proofs.Agreed.{journal-answers-alike}
use Rattle.promises.proofs.Statuses.{status-fits-its-time, misfit-is-refused}
use Rattle.promises.proofs.History.{only-accepted-stand, accepted-stand, history-tells-the-accepted, one-sequence, history-is-settled}

pub all-kept : Promises
all-kept =
    record {
      look-tells-the-truth = look-tells-the-truth;
      reads-count-the-path = reads-count-the-path;
      next-tells-the-truth = next-tells-the-truth;
      nothing-before-the-beginning = nothing-before-the-beginning;
      cards-answer-alike = cards-answer-alike;
      nothing-is-overwritten = nothing-is-overwritten;
      season-overwrites-nothing = season-overwrites-nothing;
      post-is-taken = post-is-taken;
      strike-is-taken = strike-is-taken;
      season-is-taken = season-is-taken;
      calls-are-settled = calls-are-settled;
      panel-is-settled = panel-is-settled;
      refused-means-unchanged = refused-means-unchanged;
      reads-change-nothing = reads-change-nothing;
      records-are-settled = records-are-settled;
      scroll-is-settled = scroll-is-settled;
      scroll-says-again = scroll-says-again;
      state-tells-the-truth = state-tells-the-truth;
      state-tells-the-next = state-tells-the-next;
      state-is-settled = state-is-settled;
      batch-is-one-by-one = batch-is-one-by-one;
      batch-cut-in-two = batch-cut-in-two;
      refused-does-not-stop = refused-does-not-stop;
      batch-is-settled = batch-is-settled;
      seen-through = seen-through;
      copies-of-copies = copies-of-copies;
      copies-are-refused-alike = copies-are-refused-alike;
      twice-is-once = twice-is-once;
      season-is-settled = season-is-settled;
      journal-answers-alike = journal-answers-alike;
      journal-holds-the-accepted = journal-holds-the-accepted;
      journal-tells-the-truth = journal-tells-the-truth;
      journal-takes-until-full = journal-takes-until-full;
      six-means-full = six-means-full;
      journal-overwrites-nothing = journal-overwrites-nothing;
      journal-is-settled = journal-is-settled;
      journal-reads-nothing = journal-reads-nothing;
      status-fits-its-time = status-fits-its-time;
      misfit-is-refused = misfit-is-refused;
      only-accepted-stand = only-accepted-stand;
      accepted-stand = accepted-stand;
      history-tells-the-accepted = history-tells-the-accepted;
      one-sequence = one-sequence;
      history-is-settled = history-is-settled;
    }
