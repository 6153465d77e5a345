use Rattle.std.proofs.Common.{[]}
use Rattle.grid_model.proofs.EventShapes.{after-append}
use Rattle.view_laws.proofs.BehindRows.{came-brought, view-more, sent-more, row-posts, kept-view, stop-acts, stopped-node}
use Rattle.view_laws.proofs.behind.law_behind_rows.Goals as goal

pub returns-clause-past : goal.returns-clause-past
returns-clause-past c = after-append []

pub returns-clause-came : goal.returns-clause-came
returns-clause-came c = came-brought

pub returns-clause-view : goal.returns-clause-view
returns-clause-view c = view-more

pub returns-clause-sent : goal.returns-clause-sent
returns-clause-sent c = sent-more

pub returns-clause-posts : goal.returns-clause-posts
returns-clause-posts c = row-posts

pub returns-clause-kept : goal.returns-clause-kept
returns-clause-kept c = kept-view

pub returns-clause-stop : goal.returns-clause-stop
returns-clause-stop c = stop-acts

pub returns-clause-stopped : goal.returns-clause-stopped
returns-clause-stopped c = stopped-node
