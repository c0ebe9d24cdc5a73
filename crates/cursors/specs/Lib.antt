-- What the four clients are served (document 01, "The editors' desk"; document 02, Job 6). `Laws` has what follows.
pub mod Machine
pub mod Calls
pub mod Clients
pub mod Laws
