-- A fit request at a small node is read at a small identifier: what is applied is at most the floor.
use Rattle.std.proofs.Common.{◌≡◌, ℕ, ◌<◌, ◌≤◌, ◌^◌, true, max, IsTrue, List, nat_lt, arith}
use Rattle.std.proofs.lemmas.Bool.Decides.{nat_tests}
use Rattle.score_base.specs.declared.ids.NodeId.{NodeId}
use Rattle.score_base.specs.declared.ids.Ident.{Ident}
use Rattle.score_base.specs.declared.causes.Date.{Date}
use Rattle.score_base.specs.declared.causes.Date.TheVariants as date
use Rattle.score_base.specs.declared.records.Record.{Record}
use Rattle.placement.specs.Clusters.{ClusterData}
use Rattle.journal_words.specs.Journals.{commit_id, floor}
use Rattle.journal_words.proofs.Applied.{commit_id-floor}
use Rattle.grid_model.specs.declared.messages.ReadReq.{ReadReq}
use Rattle.grid_model.specs.Stories.{is_small, is_small_node}
use Rattle.grid_model.specs.Fitness.{date_ident, is_fit_request}
use Rattle.grid_model.specs.Rows.{dated}

pub small-next : (r : List Record) (next : Ident) → IsTrue (is_small_node r next) → next < 2 ^ 22
small-next r next h = grind (arith, nat_tests)

small-floor : (r : List Record) (next : Ident) → IsTrue (is_small_node r next) → floor r < 2 ^ 22
small-floor r next h = grind (arith, nat_tests)

small-date : (c : ClusterData) (n : NodeId) (q : ReadReq) → IsTrue (is_fit_request c n q) → date_ident q.date < 2 ^ 22
small-date c n q h = grind (arith, nat_tests)

dated-below : (d : Date) (c : Ident) → date_ident d < 2 ^ 22 → c < 2 ^ 22 → dated d c < 2 ^ 22
dated-below (date.First sid0) c h g = omega arith
dated-below (date.At sid) c h g = h

pub small-dated : (c : ClusterData) (n : NodeId) (r : List Record) (next : Ident) (q : ReadReq)
    → IsTrue (is_small_node r next) → IsTrue (is_fit_request c n q) → dated q.date (commit_id r) < 2 ^ 22
small-dated c n r next q h fit =
    dated-below q.date (commit_id r) (small-date c n q fit)
    (omega (arith, commit_id-floor r, small-floor r next h))
