mod Enters
