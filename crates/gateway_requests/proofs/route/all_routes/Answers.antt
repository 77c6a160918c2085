-- The router takes the routes one after another, and none is in its way.
use Rattle.std.proofs.Common.{refl}
use Rattle.gateway_requests.proofs.Free.{subjects-free, subject-free, versions-free, version-free, schema-free, compatibility-free, config-free, subject_config-free, transcode-free}
use Rattle.gateway_requests.proofs.route.all_routes.Goals as goal

pub add-requires : goal.add-requires
add-requires c = rw c.new-router.ensures subjects-free

pub add-requires-2 : goal.add-requires-2
add-requires-2 c = rw (c.in_ok-add.ensures.taken, c.new-router.ensures) subject-free

pub add-requires-3 : goal.add-requires-3
add-requires-3 c =
    rw (
      c.in_ok-add-2.ensures.taken,
      c.in_ok-add.ensures.taken,
      c.new-router.ensures,
    ) versions-free

pub add-requires-4 : goal.add-requires-4
add-requires-4 c =
    rw (
      c.in_ok-add-3.ensures.taken,
      c.in_ok-add-2.ensures.taken,
      c.in_ok-add.ensures.taken,
      c.new-router.ensures,
    ) version-free

pub add-requires-5 : goal.add-requires-5
add-requires-5 c =
    rw (
      c.in_ok-add-4.ensures.taken,
      c.in_ok-add-3.ensures.taken,
      c.in_ok-add-2.ensures.taken,
      c.in_ok-add.ensures.taken,
      c.new-router.ensures,
    ) schema-free

pub add-requires-6 : goal.add-requires-6
add-requires-6 c =
    rw (
      c.in_ok-add-5.ensures.taken,
      c.in_ok-add-4.ensures.taken,
      c.in_ok-add-3.ensures.taken,
      c.in_ok-add-2.ensures.taken,
      c.in_ok-add.ensures.taken,
      c.new-router.ensures,
    ) compatibility-free

pub add-requires-7 : goal.add-requires-7
add-requires-7 c =
    rw (
      c.in_ok-add-6.ensures.taken,
      c.in_ok-add-5.ensures.taken,
      c.in_ok-add-4.ensures.taken,
      c.in_ok-add-3.ensures.taken,
      c.in_ok-add-2.ensures.taken,
      c.in_ok-add.ensures.taken,
      c.new-router.ensures,
    ) config-free

pub add-requires-8 : goal.add-requires-8
add-requires-8 c =
    rw (
      c.in_ok-add-7.ensures.taken,
      c.in_ok-add-6.ensures.taken,
      c.in_ok-add-5.ensures.taken,
      c.in_ok-add-4.ensures.taken,
      c.in_ok-add-3.ensures.taken,
      c.in_ok-add-2.ensures.taken,
      c.in_ok-add.ensures.taken,
      c.new-router.ensures,
    ) subject_config-free

pub add-requires-9 : goal.add-requires-9
add-requires-9 c =
    rw (
      c.in_ok-add-8.ensures.taken,
      c.in_ok-add-7.ensures.taken,
      c.in_ok-add-6.ensures.taken,
      c.in_ok-add-5.ensures.taken,
      c.in_ok-add-4.ensures.taken,
      c.in_ok-add-3.ensures.taken,
      c.in_ok-add-2.ensures.taken,
      c.in_ok-add.ensures.taken,
      c.new-router.ensures,
    ) transcode-free

pub returns-clause-taken : goal.returns-clause-taken
returns-clause-taken c =
    rw (
      c.in_ok-add-9.ensures.taken,
      c.in_ok-add-8.ensures.taken,
      c.in_ok-add-7.ensures.taken,
      c.in_ok-add-6.ensures.taken,
      c.in_ok-add-5.ensures.taken,
      c.in_ok-add-4.ensures.taken,
      c.in_ok-add-3.ensures.taken,
      c.in_ok-add-2.ensures.taken,
      c.in_ok-add.ensures.taken,
      c.new-router.ensures,
    ) refl
