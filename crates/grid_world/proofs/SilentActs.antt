-- Acts that neither send a message nor take one away leave the list of messages.
use Rattle.std.proofs.Common.{◌≡◌, true, List, [], ◌∷◌, refl}
use Rattle.std.specs.List.{list_all}
use Rattle.std.proofs.lemmas.Bool.{and_parts}
use Rattle.grid_model.specs.declared.acts.Act.{Act}
use Rattle.grid_model.specs.declared.acts.Act.TheVariants as act
use Rattle.grid_model.specs.Histories.{after}
use Rattle.sent_list.specs.SentLists.{SentData, ShowsSent, is_silent}
use Rattle.grid_world.proofs.ForCode.{sent-step}

silent_one : (x : SentData) (past : List Act) (a : Act) → is_silent a ≡ true → ShowsSent x past → ShowsSent x (a ∷ past)
silent_one x past (act.Sent m y z said) is shows = cc
silent_one x past (act.Got m) is shows = cc
silent_one x past (act.Missed m) is shows = cc
silent_one x past (act.Dropped m) is shows = cc
silent_one x past a is shows = sent-step x past a shows refl

pub silent_all : (x : SentData) (past acts : List Act) → list_all is_silent acts ≡ true → ShowsSent x past
    → ShowsSent x (after past acts)
silent_all x past [] all shows = shows
silent_all x past (a ∷ acts) all shows =
    let parts = and_parts (is_silent a) (list_all is_silent acts) all in
    silent_all x (a ∷ past) acts parts.1 (silent_one x past a parts.0 shows)
